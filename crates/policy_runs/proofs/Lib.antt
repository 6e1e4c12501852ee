mod Guarded
mod Placed
