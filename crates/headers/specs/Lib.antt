pub mod Earlier
pub mod Imports
pub mod Imported
