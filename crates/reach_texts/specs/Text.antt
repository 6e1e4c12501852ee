-- What code can reach, as texts: the members of a reach, the same as a graph, and the chain of links that leads to one of them.
use Rattle.std.specs.Prelude.{ℕ, ◌+◌, ◌-◌, nat_lt, Bool, if◌then◌else◌, List, [], ◌∷◌, ◌++◌, Option, Some, None, slice_get, codes, decimal}
use Rattle.std.specs.List.{flat_map}
use Rattle.base.specs.declared.registers.scr.TheConstants.{MTCC}
use Rattle.cap_bounds.specs.CapValue.{CapValue, is_sealed, value_base, value_top, value_perms}
use Rattle.bounds_text.specs.Letters.{permission_letters}
use Rattle.texts.specs.Hex.{hex_of}
use Rattle.disassembler.specs.Shown.{name_or}
use Rattle.asm_names.specs.TrapNames.{register_at_fault}
use Rattle.explain.specs.ValueText.{shown_value}
use Rattle.symbols.specs.Symbols.{Symbol}
use Rattle.symbols.specs.Labels.{labelled}
use Rattle.reach.specs.declared.may.Horizon.{Horizon}
use Rattle.reach.specs.declared.may.Horizon.TheVariants.{Stretch, Turn}
use Rattle.doors.specs.declared.through.Door.{Door}
use Rattle.reached.specs.declared.member.Place.{Place}
use Rattle.reached.specs.declared.member.Place.TheVariants.{Root, Special, Granule}
use Rattle.reached.specs.Order.{Found, chain_of}

-- ---- places

-- a register's name, of the general ones as a capability register; PCC and DDC come after the general registers; or a granule's address
unfoldable pub place_name : List Symbol → Place → List ℕ
place_name symbols (Root n) = name_or [] (register_at_fault n)
place_name symbols (Special n) = name_or [] (register_at_fault (32 + MTCC + n))
place_name symbols (Granule address) = labelled symbols address

-- how many roots a state has: the 32 registers, PCC and DDC. What doors lead to comes after them.
abbrev pub state_roots : ℕ
state_roots = 34

-- what is behind a door, by the place of the sealed capability
abbrev pub behind_text : List Symbol → Option Door → List ℕ
behind_text symbols None = []
behind_text symbols (Some door) = codes "behind " ++ place_name symbols door.sealed

-- the place of a member that doors may lead to
unfoldable pub place_through : List Symbol → List Door → Place → List ℕ
place_through symbols doors (Root n) =
    if nat_lt n state_roots then place_name symbols (Root n) else behind_text symbols (slice_get doors (n - state_roots))
place_through symbols doors other = place_name symbols other

-- ---- members

-- the member that led to a place; a root needs none
abbrev pub from_text : Place → ℕ → List ℕ
from_text (Root n) from = []
from_text other from = codes " from " ++ decimal from

unfoldable pub member_line : List Symbol → ℕ → Found → List ℕ
member_line symbols number x =
    decimal number ++ codes " " ++ place_name symbols x.place ++ from_text x.place x.from ++ codes " "
    ++ permission_letters (value_perms x.value) ++ codes " " ++ shown_value x.value ++ codes "\n"

-- what each of some members says, numbered from a number on
abbrev pub numbered : (ℕ → Found → List ℕ) → ℕ → List Found → List ℕ
numbered said number [] = []
numbered said number (x ∷ xs) = said number x ++ numbered said (number + 1) xs

abbrev pub members_text : List Symbol → List Found → List ℕ
members_text symbols xs = numbered (member_line symbols) 0 xs

-- ---- the graph: a node a member, an edge a link with its place; what is sealed is dashed

abbrev pub node_end : Bool → List ℕ
node_end sealed = if sealed then codes "\", style=dashed];\n" else codes "\"];\n"

abbrev pub node_line : ℕ → CapValue → List ℕ
node_line number v =
    codes "  n" ++ decimal number ++ codes " [label=\"" ++ permission_letters (value_perms v) ++ codes "\\n"
    ++ hex_of 16 (value_base v) ++ codes " to " ++ hex_of 17 (value_top v) ++ node_end (is_sealed v)

-- where a link begins
abbrev pub begin_text : Place → ℕ → List ℕ
begin_text (Root n) from = codes "registers"
begin_text other from = codes "n" ++ decimal from

abbrev pub edge_line : List Symbol → ℕ → Place → ℕ → List ℕ
edge_line symbols number place from =
    codes "  " ++ begin_text place from ++ codes " -> n" ++ decimal number ++ codes " [label=\"" ++ place_name symbols place
    ++ codes "\"];\n"

unfoldable pub link_lines : List Symbol → ℕ → Found → List ℕ
link_lines symbols number x = node_line number x.value ++ edge_line symbols number x.place x.from

abbrev pub graph_text : List Symbol → List Found → List ℕ
graph_text symbols xs =
    codes "digraph reach {\n  rankdir=LR;\n  node [shape=box, fontname=monospace];\n  registers [shape=plaintext];\n"
    ++ numbered (link_lines symbols) 0 xs ++ codes "}\n"

-- ---- whether code may do something: where it may, by which member, and the chain of places that leads to it

-- where the member of a number was found, and what it is
abbrev pub place_in : List Symbol → List Door → Option Found → List ℕ
place_in symbols doors None = []
place_in symbols doors (Some x) = place_through symbols doors x.place

abbrev pub place_at : List Symbol → List Door → List Found → ℕ → List ℕ
place_at symbols doors xs n = place_in symbols doors (slice_get xs n)

abbrev pub capability_in : Option Found → List ℕ
capability_in None = []
capability_in (Some x) = permission_letters (value_perms x.value) ++ codes " " ++ shown_value x.value

-- places in order, each after the one that leads there
abbrev pub later_places : List Symbol → List Door → List Found → List ℕ → List ℕ
later_places symbols doors xs ns = flat_map (λ n. codes " -> " ++ place_at symbols doors xs n) ns

abbrev pub chain_text : List Symbol → List Door → List Found → List ℕ → List ℕ
chain_text symbols doors xs [] = []
chain_text symbols doors xs (n ∷ ns) = place_at symbols doors xs n ++ later_places symbols doors xs ns

-- a member, with the places that lead to it
abbrev pub held_text : List Symbol → List Door → List Found → List ℕ → ℕ → List ℕ
held_text symbols doors xs way k = chain_text symbols doors xs way ++ codes " " ++ capability_in (slice_get xs k)

-- what *no* means: it holds up to there, whatever the code is
abbrev pub no_text : Horizon → List ℕ
no_text Stretch = codes "no, until the next trap, unsealing or sealed jump\n"
no_text Turn = codes "no, until the next trap or unsealing\n"

unfoldable pub answer_text : Horizon → List Symbol → List Door → List Found → Option ℕ → List ℕ
answer_text horizon symbols doors xs None = no_text horizon
answer_text horizon symbols doors xs (Some k) = codes "yes: " ++ held_text symbols doors xs (chain_of xs k) k ++ codes "\n"
