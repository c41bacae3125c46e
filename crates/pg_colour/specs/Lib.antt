pub mod Colours
pub mod Colouring
pub mod ColoursLaws
pub mod ColouringLaws
pub mod Proper
