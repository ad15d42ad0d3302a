pub mod ContainingSteps
pub mod LevelSteps
pub mod OneHolder
pub mod OneLevels
pub mod OneSetting
pub mod ParentSteps
pub mod SettingValues
