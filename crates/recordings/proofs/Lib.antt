pub mod Reproduces
