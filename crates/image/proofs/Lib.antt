mod Numbers
mod Inverse
mod Format
mod Taking
mod Going
mod Ending
