use Rattle.std.proofs.Common.{◌≡◌, subst, sym}
use Rattle.std.specs.Prelude.{IsTrue}
use Rattle.symbols.specs.Sources.{is_shown, place_in}
use Rattle.symbols.proofs.SourceLemmas.{place_has_address, shown_is_shown}
use Rattle.symbols.proofs.sources.push_place.Goals as goal

pub address-address-requires : goal.address-address-requires
address-address-requires c = place_has_address c.args.line.now cc

pub invariant_of-push : goal.invariant_of-push
invariant_of-push c =
    (subst (λ text. IsTrue (is_shown text)) (sym c.in_ok-text.ensures) (shown_is_shown c.place_in.result.now), tt)
