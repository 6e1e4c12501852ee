use Rattle.std.proofs.Common.{◌≡◌, ◌++◌, drop}
use Rattle.std.specs.Prelude.{string_bytes}
use Rattle.reached.specs.Order.{seen_members}
use Rattle.reach_texts.specs.Text.{chain_text, later_places}
use Rattle.reach_texts.proofs.answer.append_chain.Given as goal

-- what is written and the places that are left make all that is said
abbrev pub invariant-loop-number : goal.invariant-loop-number
invariant-loop-number g l =
    string_bytes l.text ++ later_places l.symbols l.doors (seen_members g.C.CapRep.value l.members) (drop l.number-index l.later)
    ≡ string_bytes l.fn.text ++ chain_text l.symbols l.doors (seen_members g.C.CapRep.value l.members) l.way
