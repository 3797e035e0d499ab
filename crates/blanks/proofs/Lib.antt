pub mod Blanked
