mod Bindings
mod Fitting
mod Reading
