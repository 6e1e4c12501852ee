-- The addresses of tagged granules, as an iterator over their tags gives them.
use Rattle.std.proofs.Common.{◌≡◌, ℕ, zero, suc, ◌+◌, ◌-◌, ◌*◌, ◌/◌, ◌<◌, ◌≤◌, ◌⊎◌, min, max, Bool, true, false, cond, ◌&&◌, ltb, leb}
use Rattle.std.proofs.Common.{List, [], ◌∷◌, length, map, take, drop, get_or, refl, sym, ap, ◌∙◌, arith, inl, inr, ⊎_elim}
use Rattle.std.proofs.lemmas.Bool.{le-leb, lt-leb, lt-ltb, le-ltb, and_from, and_left, and_right}
use Rattle.std.proofs.lemmas.List.{length-take, length-take-le, length-drop, get_or-take, get_or-drop, drop-take, drop-drop}
use Rattle.std.specs.List.{filter, range_with_len}
use Rattle.base.specs.Ram.{ram_base}
use Rattle.tagged_memory.specs.Memory.{Memory, has_tag, tagged_between}
use Rattle.tagged_memory.specs.Layout.{memory_of, IsLaidOut}
use Rattle.tagged_memory.specs.Tagged.{addresses_of}
use Rattle.tag_planes.specs.Planes.{tag_at, tags_of, IsNextTag}
use Rattle.tag_planes.specs.PlanesLaws.{length-tags_of, get_or-tags_of}
use Rattle.tagged_memory.proofs.Tags.{contains_at}

past_zero : (k n : ℕ) → (k < 0) ⊎ (0 + n ≤ k) → 0 + suc n ≤ suc k
past_zero k n far = ⊎_elim (λ below. absurd (omega arith)) (λ past. omega arith) far

moved : (low n k : ℕ) → (k < low) ⊎ (low + n ≤ k) → (suc k < suc low) ⊎ (suc low + n ≤ suc k)
moved low n k far = ⊎_elim (λ below. inl (omega arith)) (λ past. inr (omega arith)) far

outside_end : (from to first n k len : ℕ) → first ≡ min len ((from - ram_base + 15) / 16)
    → first + n ≡ max (min len ((to - ram_base + 15) / 16)) first → first + n ≤ k → k < len
    → (leb from (ram_base + 16 * (0 + k)) && ltb (ram_base + 16 * (0 + k)) to) ≡ false
outside_end from to first n k len begin end after h =
    let past : to ≤ ram_base + 16 * (0 + k) = omega arith in
    and_right _ _ (le-ltb _ _ past)

-- a filter of the granules that passes the tagged ones of a stretch gives the addresses of that stretch
filtered : (tags : List Bool) (j low n : ℕ) (p : ℕ → Bool)
    → ((k : ℕ) → low ≤ k → k < low + n → k < length tags → p (ram_base + 16 * (j + k)) ≡ get_or tags k false)
    → ((k : ℕ) → k < length tags → (k < low) ⊎ (low + n ≤ k) → p (ram_base + 16 * (j + k)) ≡ false)
    → filter p (map (λ k. ram_base + 16 * k) (range_with_len j (length tags)))
    ≡ addresses_of (ram_base + 16 * (j + low)) (take n (drop low tags))
filtered [] j zero zero p within without = refl
filtered [] j zero (suc n) p within without = refl
filtered [] j (suc low) zero p within without = refl
filtered [] j (suc low) (suc n) p within without = refl
filtered (t ∷ tags) j zero zero p within without =
    let start : j + 0 ≡ j = omega arith in
    let first : p (ram_base + 16 * j) ≡ false = ap (λ k. p (ram_base + 16 * k)) (sym start) ∙ without 0 (omega arith) (inr (omega arith)) in
    ap (λ b. cond b ((ram_base + 16 * j) ∷ filter p (map (λ k. ram_base + 16 * k) (range_with_len (j + 1) (length tags))))
    (filter p (map (λ k. ram_base + 16 * k) (range_with_len (j + 1) (length tags))))) first
    ∙ filtered tags (j + 1) zero zero p (λ k low high h. absurd (omega arith))
    (λ k h far. let step : j + 1 + k ≡ j + suc k = omega arith in ap (λ x. p (ram_base + 16 * x)) step
    ∙ without (suc k) (omega arith) (inr (omega arith)))
filtered (t ∷ tags) j zero (suc n) p within without =
    let start : j + 0 ≡ j = omega arith in
    let first : p (ram_base + 16 * j) ≡ t = ap (λ k. p (ram_base + 16 * k)) (sym start)
    ∙ within 0 (omega arith) (omega arith) (omega arith) in
    let later : j + 1 + 0 ≡ j + 1 = omega arith in
    let next : ram_base + 16 * (j + 1) ≡ ram_base + 16 * (j + 0) + 16 = omega arith in
    let rest : filter p (map (λ k. ram_base + 16 * k) (range_with_len (j + 1) (length tags)))
    ≡ addresses_of (ram_base + 16 * (j + 0) + 16) (take n tags) =
    filtered tags (j + 1) zero n p
    (λ k low high h. let step : j + 1 + k ≡ j + suc k = omega arith in ap (λ x. p (ram_base + 16 * x)) step
    ∙ within (suc k) (omega arith) (omega arith) (omega arith))
    (λ k h far. let step : j + 1 + k ≡ j + suc k = omega arith in ap (λ x. p (ram_base + 16 * x)) step
    ∙ without (suc k) (omega arith) (inr (past_zero k n far)))
    ∙ ap (λ k. addresses_of (ram_base + 16 * k) (take n tags)) later ∙ ap (λ a. addresses_of a (take n tags)) next in
    ap (λ b. cond b ((ram_base + 16 * j) ∷ filter p (map (λ k. ram_base + 16 * k) (range_with_len (j + 1) (length tags))))
    (filter p (map (λ k. ram_base + 16 * k) (range_with_len (j + 1) (length tags))))) first
    ∙ ap (λ xs. cond t ((ram_base + 16 * j) ∷ xs) xs) rest
    ∙ ap (λ k. cond t ((ram_base + 16 * k) ∷ addresses_of (ram_base + 16 * (j + 0) + 16) (take n tags))
    (addresses_of (ram_base + 16 * (j + 0) + 16) (take n tags))) (sym start)
filtered (t ∷ tags) j (suc low) n p within without =
    let start : j + 0 ≡ j = omega arith in
    let first : p (ram_base + 16 * j) ≡ false = ap (λ k. p (ram_base + 16 * k)) (sym start) ∙ without 0 (omega arith) (inl (omega arith)) in
    let later : j + 1 + low ≡ j + suc low = omega arith in
    ap (λ b. cond b ((ram_base + 16 * j) ∷ filter p (map (λ k. ram_base + 16 * k) (range_with_len (j + 1) (length tags))))
    (filter p (map (λ k. ram_base + 16 * k) (range_with_len (j + 1) (length tags))))) first
    ∙ filtered tags (j + 1) low n p
    (λ k from to h. let step : j + 1 + k ≡ j + suc k = omega arith in ap (λ x. p (ram_base + 16 * x)) step
    ∙ within (suc k) (omega arith) (omega arith) (omega arith))
    (λ k h far. let step : j + 1 + k ≡ j + suc k = omega arith in ap (λ x. p (ram_base + 16 * x)) step
    ∙ without (suc k) (omega arith) (moved low n k far))
    ∙ ap (λ k. addresses_of (ram_base + 16 * k) (take n (drop low tags))) later

and_true_true : (x b c : Bool) → b ≡ true → c ≡ true → (x && (b && c)) ≡ x
and_true_true true b c p q = and_from b c p q
and_true_true false b c p q = refl

-- the tagged granules of a stretch, which are those from an address on and below another
pub addresses_of-is : {m : Memory} (bytes planes : List ℕ) (from to first n : ℕ) → memory_of bytes planes ≡ m → IsLaidOut bytes planes
    → first ≡ min (length (tags_of planes)) ((from - ram_base + 15) / 16)
    → first + n ≡ max (min (length (tags_of planes)) ((to - ram_base + 15) / 16)) first
    → addresses_of (ram_base + 16 * first) (take n (drop first (tags_of planes))) ≡ tagged_between m from to
unfolding tagged_between
addresses_of-is bytes planes from to first n view laid begin end =
    let p : ℕ → Bool = λ a. has_tag (memory_of bytes planes) a && (leb from a && ltb a to) in
    let count : length (tags_of planes) ≡ length bytes / 16 = omega (arith, laid.whole_pages, laid.four_a_page, length-tags_of planes) in
    let zero_first : 0 + first ≡ first = omega arith in
    let inside : (k : ℕ) → first ≤ k → k < first + n → k < length (tags_of planes)
    → p (ram_base + 16 * (0 + k)) ≡ get_or (tags_of planes) k false =
    λ k low high h.
    let a : ram_base + 16 * (0 + k) ≡ ram_base + 16 * k = omega arith in
    let above : from ≤ ram_base + 16 * (0 + k) = omega arith in
    let below : ram_base + 16 * (0 + k) < to = omega arith in
    and_true_true (has_tag (memory_of bytes planes) (ram_base + 16 * (0 + k))) _ _ (le-leb _ _ above) (lt-ltb _ _ below)
    ∙ contains_at ram_base (tags_of planes) k (ram_base + 16 * (0 + k)) a in
    let outside : (k : ℕ) → k < length (tags_of planes) → (k < first) ⊎ (first + n ≤ k) → p (ram_base + 16 * (0 + k)) ≡ false =
    λ k h far. and_right _ _
    (⊎_elim (λ before. let below : ram_base + 16 * (0 + k) < from = omega arith in and_left _ _ (lt-leb _ _ below))
    (λ after. outside_end from to first n k (length (tags_of planes)) begin end after h) far) in
    ap (λ k. addresses_of (ram_base + 16 * k) (take n (drop first (tags_of planes)))) (sym zero_first)
    ∙ sym (filtered (tags_of planes) 0 first n p inside outside)
    ∙ ap (λ c. filter p (map (λ k. ram_base + 16 * k) (range_with_len 0 c))) count
    ∙ ap (λ x. tagged_between x from to) view

-- granules that are not tagged give no address
pub addresses_of-none : (a : ℕ) (tags : List Bool) → ((k : ℕ) → k < length tags → get_or tags k false ≡ false) → addresses_of a tags ≡ []
addresses_of-none a [] none = refl
addresses_of-none a (tag ∷ tags) none =
    ap (λ b. cond b (a ∷ addresses_of (a + 16) tags) (addresses_of (a + 16) tags)) (none 0 (omega arith))
    ∙ addresses_of-none (a + 16) tags (λ k below. none (suc k) (omega arith))

-- the first granule that is tagged gives the first address
pub addresses_of-some : (a n : ℕ) (tags : List Bool) → n < length tags → ((k : ℕ) → k < n → get_or tags k false ≡ false)
    → get_or tags n false ≡ true
    → addresses_of a tags ≡ (a + 16 * n) ∷ addresses_of (a + 16 * (n + 1)) (drop (n + 1) tags)
addresses_of-some a n [] inside none tagged = absurd (omega arith)
addresses_of-some a zero (tag ∷ tags) inside none tagged =
    let at : a ≡ a + 16 * 0 = omega arith in
    let next : a + 16 ≡ a + 16 * (0 + 1) = omega arith in
    ap (λ b. cond b (a ∷ addresses_of (a + 16) tags) (addresses_of (a + 16) tags)) tagged
    ∙ ap (λ x. x ∷ addresses_of (a + 16) tags) at ∙ ap (λ x. (a + 16 * 0) ∷ addresses_of x tags) next
addresses_of-some a (suc n) (tag ∷ tags) inside none tagged =
    let at : a + 16 + 16 * n ≡ a + 16 * suc n = omega arith in
    let next : a + 16 + 16 * (n + 1) ≡ a + 16 * (suc n + 1) = omega arith in
    let past : suc (n + 1) ≡ suc n + 1 = omega arith in
    ap (λ b. cond b (a ∷ addresses_of (a + 16) tags) (addresses_of (a + 16) tags)) (none 0 (omega arith))
    ∙ addresses_of-some (a + 16) n tags (omega arith) (λ k below. none (suc k) (omega arith)) tagged
    ∙ ap (λ x. x ∷ addresses_of (a + 16 + 16 * (n + 1)) (drop (n + 1) tags)) at
    ∙ ap (λ x. (a + 16 * suc n) ∷ addresses_of x (drop (n + 1) tags)) next
    ∙ ap (λ m. (a + 16 * suc n) ∷ addresses_of (a + 16 * (suc n + 1)) (drop m (tag ∷ tags))) past

-- the addresses that are left of a range of granules: none where no granule of it is tagged
pub range-none : (planes : List ℕ) (next end found : ℕ) → IsNextTag planes next found → end ≤ found → end ≤ 64 * length planes
    → addresses_of (ram_base + 16 * next) (take (end - next) (drop next (tags_of planes))) ≡ []
range-none planes next end found is late room =
    let left = take (end - next) (drop next (tags_of planes)) in
    let long : length left ≤ end - next = omega (arith, length-take (end - next) (drop next (tags_of planes))) in
    addresses_of-none (ram_base + 16 * next) left (λ k below.
    get_or-take (end - next) (drop next (tags_of planes)) k false (omega arith)
    ∙ get_or-drop next (tags_of planes) k false
    ∙ get_or-tags_of planes (next + k)
    ∙ is.none_between (next + k) (omega arith) (omega arith))

-- or that of the first that is tagged, and those after it
pub range-some : (planes : List ℕ) (next end found : ℕ) → IsNextTag planes next found → found < end → end ≤ 64 * length planes
    → addresses_of (ram_base + 16 * next) (take (end - next) (drop next (tags_of planes)))
    ≡ (ram_base + 16 * found) ∷ addresses_of (ram_base + 16 * (found + 1)) (take (end - (found + 1)) (drop (found + 1) (tags_of planes)))
range-some planes next end found is early room =
    let tags = tags_of planes in
    let left = take (end - next) (drop next tags) in
    let skipped = found - next in
    let some = is.not_before in
    let back : next + skipped ≡ found = omega arith in
    let long : length left ≡ end - next =
    length-take-le (end - next) (drop next tags) (omega (arith, length-drop next tags, length-tags_of planes)) in
    let at : ram_base + 16 * next + 16 * skipped ≡ ram_base + 16 * found = omega arith in
    let past : ram_base + 16 * next + 16 * (skipped + 1) ≡ ram_base + 16 * (found + 1) = omega arith in
    let split : end - next ≡ skipped + 1 + (end - (found + 1)) = omega arith in
    let step : next + (skipped + 1) ≡ found + 1 = omega arith in
    let rest : drop (skipped + 1) left ≡ take (end - (found + 1)) (drop (found + 1) tags) =
    ap (λ n. drop (skipped + 1) (take n (drop next tags))) split
    ∙ drop-take (skipped + 1) (end - (found + 1)) (drop next tags)
    ∙ ap (take (end - (found + 1))) (drop-drop (skipped + 1) next tags ∙ ap (λ n. drop n tags) step) in
    addresses_of-some (ram_base + 16 * next) skipped left (omega arith) (λ k below.
    get_or-take (end - next) (drop next tags) k false (omega arith)
    ∙ get_or-drop next tags k false ∙ get_or-tags_of planes (next + k)
    ∙ is.none_between (next + k) (omega arith) (omega arith))
    (get_or-take (end - next) (drop next tags) skipped false (omega arith)
    ∙ get_or-drop next tags skipped false ∙ get_or-tags_of planes (next + skipped)
    ∙ ap (tag_at planes) back ∙ is.tagged (omega arith))
    ∙ ap (λ x. x ∷ addresses_of (ram_base + 16 * next + 16 * (skipped + 1)) (drop (skipped + 1) left)) at
    ∙ ap (λ x. (ram_base + 16 * found) ∷ addresses_of x (drop (skipped + 1) left)) past
    ∙ ap (λ xs. (ram_base + 16 * found) ∷ addresses_of (ram_base + 16 * (found + 1)) xs) rest
