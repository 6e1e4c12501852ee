-- What setting the address of a word and its tag gives.
use Rattle.std.proofs.Common.{◌≡◌, ℕ, ◌^◌, ◌<◌, true, false, eqb, refl, sym, ap, ◌∙◌}
use Rattle.std.proofs.lemmas.Bool.{false_from_ne_true}
use Rattle.cap_format.specs.Word.{otype_of, with_address_of}
use Rattle.cap_bounds.specs.Record.{Record, IsWellFormed, IsWordWellFormed, encoded, decoded, window_holds}
use Rattle.cap_bounds.specs.CapValue.{Cap, Data, value_of}
use Rattle.cap_bounds.specs.SetAddress.{KeepsBounds, at_address}
use Rattle.cap_bounds.specs.SetAddressLaws.{at_address-moved, at_address-sealed, at_address-outside}
use Rattle.cap_bounds.specs.FieldLaws.{address-encoded}
use Rattle.cap_bounds.specs.RecordLaws.{decoded-encoded, encoded-well_formed, keeps_bounds-in_window}

-- a record with an address in its window is well-formed
IsWellFormed-address : (r : Record) → IsWellFormed r → (address : ℕ) → address < 2 ^ 64 → window_holds r address ≡ true
    → IsWellFormed (record r { address = address })
IsWellFormed-address r well address fits holds = record {
  ordered = well.ordered;
  in_space = well.in_space;
  base_fits = well.base_fits;
  address_fits = fits;
  perms_fit = well.perms_fit;
  otype_fits = well.otype_fits;
  base_aligned = well.base_aligned;
  top_aligned = well.top_aligned;
  in_window = holds;
}

-- a well-formed word with another address is the word of its record with that address
with_address_of-record : (word address : ℕ) → IsWordWellFormed word
    → with_address_of word address ≡ encoded (record (decoded word) { address = address })
with_address_of-record word address well =
    ap (λ w. with_address_of w address) (sym well.canonical) ∙ address-encoded (decoded word) well.decodes address

-- where the bounds stay it may be tagged
pub IsWordWellFormed-moved : (word address : ℕ) → IsWordWellFormed word → address < 2 ^ 64 → KeepsBounds word address
    → IsWordWellFormed (with_address_of word address)
IsWordWellFormed-moved word address well fits kept =
    let holds = (keeps_bounds-in_window word address well fits).1 kept in
    rw (with_address_of-record word address well)
    ((encoded-well_formed _ (IsWellFormed-address (decoded word) well.decodes address fits holds)).1)

pub at_address-kept : (word address : ℕ) → IsWordWellFormed word → address < 2 ^ 64 → otype_of word ≡ 0x3_ffff → KeepsBounds word address
    → at_address (value_of word true) address ≡ value_of (with_address_of word address) true
unfolding decoded
at_address-kept word address well fits unsealed kept =
    let holds = (keeps_bounds-in_window word address well fits).1 kept in
    let r : Record = decoded word in
    at_address-moved r address unsealed holds
    ∙ ap Cap (sym (decoded-encoded _ (IsWellFormed-address r well.decodes address fits holds))
    ∙ ap decoded (sym (with_address_of-record word address well)))

-- any other value becomes data
pub at_address-lost : (word address : ℕ) → IsWordWellFormed word → address < 2 ^ 64 → (KeepsBounds word address → ⊥)
    → at_address (value_of word true) address ≡ value_of (with_address_of word address) false
at_address-lost word address well fits moved =
    let outside : window_holds (decoded word) address ≡ false =
    false_from_ne_true _ (λ holds. moved ((keeps_bounds-in_window word address well fits).0 holds)) in
    at_address-outside (decoded word) address outside ∙ ap (λ w. Data (with_address_of w address)) well.canonical

pub at_address-sealed_word : (word address : ℕ) → IsWordWellFormed word → eqb (otype_of word) 0x3_ffff ≡ false
    → at_address (value_of word true) address ≡ value_of (with_address_of word address) false
unfolding decoded
at_address-sealed_word word address well sealed =
    at_address-sealed (decoded word) address sealed ∙ ap (λ w. Data (with_address_of w address)) well.canonical

pub at_address-data : (word address : ℕ) → at_address (value_of word false) address ≡ value_of (with_address_of word address) false
unfolding at_address
at_address-data word address = refl
