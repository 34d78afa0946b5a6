mod FieldLemmas
mod Fitting
mod ParamLemmas
mod Passing
mod Reading
mod Sorting
mod Taking
mod Typing
