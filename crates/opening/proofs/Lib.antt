-- Laws for the opening.
pub mod OpenLaws
