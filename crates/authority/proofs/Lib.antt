mod AgreesBothWays
mod HiddenParts
mod Granules
