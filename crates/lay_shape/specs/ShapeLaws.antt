pub mod NeedLaws
pub mod RootKeys
