-- Where the time of a run goes: how many of its steps are fetched at each label, or in each 4 KiB where no label is near.
use Rattle.std.specs.Prelude.{◌≡◌, ℕ, ◌<◌, ◌-◌, ◌*◌, ◌/◌, ◌%◌, ◌==◌, Bool, nat_lt, if◌then◌else◌, List, [], ◌∷◌, ◌++◌, length, map}
use Rattle.std.specs.Prelude.{Option, Some, None, is_some, codes, count_by, decimal}
use Rattle.std.specs.BTreeMap.{BTreeMap, IsOrdered, get}
use Rattle.std.specs.List.{flat_map}
use Rattle.std.specs.List.Sorted.{IsPermutation, IsSortedBy}
use Rattle.std.specs.Option.{unwrap_or}
use Rattle.std.specs.Ordering.{is_lt, nat_cmp, ordering_then}
use Rattle.steps.specs.declared.event.Event.{Event}
use Rattle.steps.specs.declared.event.Event.TheVariants.{Step, Tick, Byte}
use Rattle.steps.specs.Event.{after}
use Rattle.steps.specs.State.{State, pc_of}
use Rattle.symbols.specs.Labels.{labelled}
use Rattle.symbols.specs.Symbols.{Symbol, name_at, nearest}
use Rattle.sim_run.specs.declared.tally.Share.{Share}

-- PCC's address before each of the steps among events
abbrev pub fetches : List Event → State → List ℕ
fetches [] s = []
fetches (Step ∷ es) s = pc_of s ∷ fetches es (after Step s)
fetches (Tick ∷ es) s = fetches es (after Tick s)
fetches (Byte b ∷ es) s = fetches es (after (Byte b) s)

-- the place that an address belongs to: a label at it or fewer than 4096 bytes below it, else the 4 KiB that it lies in
abbrev pub place_by : Option Symbol → ℕ → ℕ
place_by None address = address / 4096 * 4096
place_by (Some label) address = if nat_lt (address - label.address) 4096 then label.address else address / 4096 * 4096

unfoldable pub place_of : List Symbol → ℕ → ℕ
place_of symbols address = place_by (nearest symbols address) address

-- how many of the addresses belong to a place
abbrev pub count_at : List Symbol → List ℕ → ℕ → ℕ
count_at symbols addresses place = count_by (λ address. place_of symbols address == place) addresses

-- ---- a table of counts

abbrev pub count_of : BTreeMap ℕ ℕ → ℕ → ℕ
count_of tally place = unwrap_or (get nat_cmp tally place) 0

-- no place has the count 0
abbrev pub IsSound : BTreeMap ℕ ℕ → Type 0
IsSound tally = (place : ℕ) → 0 < unwrap_or (get nat_cmp tally place) 1

-- It has each place that one of the addresses belongs to, with how many do.
pub record IsTally (symbols : List Symbol) (addresses : List ℕ) (tally : BTreeMap ℕ ℕ) : Type 0 where
  pub sound : IsSound tally
  pub counts : (place : ℕ) → count_of tally place ≡ count_at symbols addresses place
  pub ordered : IsOrdered nat_cmp tally

-- ---- and in the order of a profile

abbrev pub share : (ℕ × ℕ) → Share
share entry = record { place = entry.0; count = entry.1 }

-- more steps, or as many at a lower place
abbrev pub comes_before : Share → Share → Bool
comes_before a b = is_lt (ordering_then (nat_cmp b.count a.count) (nat_cmp a.place b.place))

-- Each place that one of the addresses belongs to, with how many do: most of them first, and of as many the lower place.
pub record IsRanking (symbols : List Symbol) (addresses : List ℕ) (shares : List Share) : Type 0 where
  pub tally : BTreeMap ℕ ℕ
  pub counts : IsTally symbols addresses tally
  pub same : IsPermutation (map share tally.entries) shares
  pub order : IsSortedBy comes_before shares

-- ---- its text

-- an address, and the label there, if there is one
abbrev pub place_text : List Symbol → ℕ → List ℕ
place_text symbols place = labelled (if is_some (name_at symbols place) then symbols else []) place

-- a part of all in tenths of a percent, rounded down
abbrev pub tenths : ℕ → ℕ → ℕ
tenths count all = count * 1000 / all

abbrev pub percent_text : ℕ → List ℕ
percent_text tenths = decimal (tenths / 10) ++ codes "." ++ decimal (tenths % 10) ++ codes " %"

-- as `12345 45.2 % 0000000080000010 <loop>`
unfoldable pub share_line : List Symbol → ℕ → Share → List ℕ
share_line symbols all share =
    decimal share.count ++ codes " " ++ percent_text (tenths share.count all) ++ codes " " ++ place_text symbols share.place
    ++ codes "\n"

abbrev pub profile_text : List Symbol → ℕ → List Share → List ℕ
profile_text symbols all shares = flat_map (share_line symbols all) shares ++ decimal all ++ codes " steps\n"

-- a line for each place that one of the addresses belongs to, and how many they are
abbrev pub IsProfile : List Symbol → List ℕ → List ℕ → Type 0
IsProfile symbols addresses text =
    (shares : List Share) × IsRanking symbols addresses shares × (text ≡ profile_text symbols (length addresses) shares)
