mod Labels
mod Listed
