mod Beginning
mod CtxPairs
mod Fitting
mod Floats
mod Taking
mod Typing
mod Whole
