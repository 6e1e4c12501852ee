mod Globals
