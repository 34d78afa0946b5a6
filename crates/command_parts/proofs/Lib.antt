pub mod Asking
pub mod Ends
pub mod Found
pub mod Delivering
pub mod Reporting
pub mod Statuses
