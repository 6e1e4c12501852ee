use Rattle.std.proofs.Common.{◌≡◌, ℕ, ◌+◌, ◌<◌, true, List, ◌∷◌, length, get_or, drop, refl, sym, ap, subst, ◌∙◌, add-one, drop-cons}
use Rattle.std.proofs.lemmas.List.{length-replicate}
use Rattle.tagged_memory.specs.Memory.{zeroed, capability_written}
use Rattle.image.specs.declared.cap_entry.CapEntry.{CapEntry}
use Rattle.image.specs.ImageLaws.{AllInRam-image, AreGoodCapabilities, AreGoodCapabilities-image}
use Rattle.steps.specs.State.{HoldsCapabilities}
use Rattle.hart.specs.OpeningLaws.{HoldsCapabilities-loaded, no_place_fault, length-put, HoldsCapabilities-put}
use Rattle.hart.specs.OpeningStateLaws.{length-loaded}
use Rattle.hart.proofs.opening.opened_memory.Goals as goal

abbrev nowhere : CapEntry
nowhere = record { place = 0; base = 0; length = 0; perms = 0; flag = 0 }

-- the rest of the entries from one on
rest-cons : (xs : List CapEntry) (i : ℕ) → i < length xs → drop i xs ≡ get_or xs i nowhere ∷ drop (i + 1) xs
rest-cons xs i below = rw add-one (drop-cons xs i nowhere below)

pub loop-entry-init : goal.loop-entry-init
loop-entry-init g c =
    let image = c.args.image.now in
    let made = c.in_ok-memory.ensures in
    let valid = c.capabilities-entry-items.ensures.valid in
    record {
      whole = ap (λ m. length m.bytes) made
          ∙ length-loaded image.sections (zeroed image.pages) image.pages (length-replicate _ _) (AllInRam-image image valid);
      good = rw c.capabilities-entry-items.ensures.value (AreGoodCapabilities-image image valid);
      rest = rw (c.capabilities-entry-items.ensures.value, made) refl;
      holds = subst HoldsCapabilities (sym made) (HoldsCapabilities-loaded image);
    }

pub entry_word-requires-clause-end : goal.entry_word-requires-clause-end
entry_word-requires-clause-end g c =
    let e = rest-cons c.capabilities-entry-items.result.now c.loop-entry.entry-index c.loop-entry-test.true in
    (subst (AreGoodCapabilities c.args.image.now.pages) e c.loop-entry.invariant.good).0.end_fits

pub entry_word-requires-clause-perms : goal.entry_word-requires-clause-perms
entry_word-requires-clause-perms g c =
    let e = rest-cons c.capabilities-entry-items.result.now c.loop-entry.entry-index c.loop-entry-test.true in
    (subst (AreGoodCapabilities c.args.image.now.pages) e c.loop-entry.invariant.good).0.perms_fit

pub store_cap-requires : goal.store_cap-requires
store_cap-requires g c =
    let e = rest-cons c.capabilities-entry-items.result.now c.loop-entry.entry-index c.loop-entry-test.true in
    let all = subst (AreGoodCapabilities c.args.image.now.pages) e c.loop-entry.invariant.good in
    no_place_fault c.loop-entry.memory c.args.image.now.pages _ c.loop-entry.invariant.whole all.0

pub loop-entry-preserved : goal.loop-entry-preserved
loop-entry-preserved g c =
    let i = c.loop-entry.invariant in
    let xs = c.capabilities-entry-items.result.now in
    let x = get_or xs c.loop-entry.entry-index nowhere in
    let e = rest-cons xs c.loop-entry.entry-index c.loop-entry-test.true in
    let all = subst (AreGoodCapabilities c.args.image.now.pages) e i.good in
    let made = c.store_cap.ensures.value ∙ ap (λ w. capability_written c.loop-entry.memory x.place w true) c.entry_word.ensures in
    record {
      whole = ap (λ m. length m.bytes) made ∙ length-put c.loop-entry.memory _ x i.whole all.0;
      good = all.1;
      rest = rw made (rw e at i.rest);
      holds = subst HoldsCapabilities (sym made)
          (HoldsCapabilities-put c.loop-entry.memory _ x i.whole all.0 c.store_cap.ensures.was_sound i.holds);
    }
