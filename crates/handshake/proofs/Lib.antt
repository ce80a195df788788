pub mod FieldsAgain
pub mod CountedAgain
pub mod GreetingAgain
pub mod ResponseAgain
pub mod SwitchAgain
