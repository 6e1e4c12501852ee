-- What a hint is made of.
use Rattle.std.specs.Prelude.{ℕ, ◌≤◌, Bool, ◌&&◌, nat_le, nat_lt, List, length, IsTrue}
use Rattle.std.specs.List.{list_all}

-- each byte is printable ASCII
abbrev pub are_printable : List ℕ → Bool
are_printable text = list_all (λ byte. nat_le 32 byte && nat_lt byte 127) text

-- a line without its line feed, of at most 200 bytes; it may be empty
abbrev pub IsHint : List ℕ → Type 0
IsHint text = (length text ≤ 200) × IsTrue (are_printable text)
