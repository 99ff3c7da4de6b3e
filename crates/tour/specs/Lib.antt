pub mod ManagerSteps
pub mod StoreSteps
