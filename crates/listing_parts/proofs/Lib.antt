pub mod Forms
pub mod NumberForms
pub mod Escapes
pub mod Controls
pub mod Unquoting
pub mod Parts
pub mod Clean
pub mod Unbroken
