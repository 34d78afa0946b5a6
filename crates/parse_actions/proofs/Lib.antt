pub mod OnOk
