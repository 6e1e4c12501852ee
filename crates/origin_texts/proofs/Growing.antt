-- A log grows by what the next event wrote.
use Rattle.std.proofs.Common.{◌≡◌, ℕ, suc, ◌<◌, ◌≤◌, List, [], ◌∷◌, ◌++◌, refl, sym, ap, subst, ◌∙◌, arith}
use Rattle.std.proofs.Common.{append_assoc, append-nil}
use Rattle.std.proofs.lemmas.Bool.Decides.{nat_tests}
use Rattle.std.specs.Prelude.{Bool, true, false, if◌then◌else◌, nat_lt, ◌&&◌, ◌||◌, Option, Some, None, IfSome}
use Rattle.origins.specs.Making.{source}
use Rattle.origins.specs.declared.making.Making.{Making}
use Rattle.origins.specs.declared.place.Place.{Place}
use Rattle.origins.specs.declared.search.Found.{Found}
use Rattle.origin_texts.specs.declared.log.Link.{Link}
use Rattle.origin_texts.specs.Writes.{entry, is_among, noted}
use Rattle.origin_texts.specs.Log.{AreBefore, Ascends, IsIn, IsLog, IsLogged, is_of, is_same, logged}
use Rattle.origins.specs.Search.{newer}
use Rattle.origin_texts.specs.Chain.{History}
use Rattle.origin_texts.proofs.Following.{later_idle, logged-append, same_is}

ascends_lower : (low k : ℕ) (xs : List Link) → low ≤ k → Ascends k xs → Ascends low xs
ascends_lower low k [] few up = tt
ascends_lower low k (x ∷ xs) few up = (omega (arith, few, up.0), up.1)

ascends-append : (w : History) (low k : ℕ) (xs ys : List Link) → low ≤ k → Ascends low xs → AreBefore w k xs → Ascends k ys
    → Ascends low (xs ++ ys)
ascends-append w low k [] ys few up before later = ascends_lower low k ys few later
ascends-append w low k (x ∷ xs) ys few up before later =
    (up.0, ascends-append w x.found.before k xs ys (omega (arith, before.0)) up.1 before.2 later)

before_more : (w : History) (k : ℕ) (xs : List Link) → AreBefore w k xs → AreBefore w (suc k) xs
before_more w k [] are = tt
before_more w k (x ∷ xs) are = (omega (arith, are.0), are.1, before_more w k xs are.2)

before-append : (w : History) (k : ℕ) (xs ys : List Link) → AreBefore w k xs → AreBefore w k ys → AreBefore w k (xs ++ ys)
before-append w k [] ys are later = later
before-append w k (x ∷ xs) ys are later = (are.0, are.1, before-append w k xs ys are.2 later)

-- one event more is none of those
one_more : (w : History) (k : ℕ) (xs : List Link) (p : Place) (f : Option Found) → AreBefore w k xs
    → logged xs p (suc k) f ≡ logged xs p k f
one_more w k [] p f are = refl
one_more w k (x ∷ xs) p f are =
    let now : nat_lt x.found.before (suc k) ≡ nat_lt x.found.before k = both (omega (arith, are.0)) are.0 in
    ap (λ b. logged xs p (suc k) (if is_same x.place p && b then Some x.found else f)) now
    ∙ one_more w k xs p (if is_of x p k then Some x.found else f) are.2
  where
    both : x.found.before < suc k → x.found.before < k → nat_lt x.found.before (suc k) ≡ nat_lt x.found.before k
    both h g = grind (arith, nat_tests)

module _ (w : History) (from k : ℕ) (made : Place → Option Making) (log more : List Link) (low : from ≤ k) (is_log : IsLog w from k log)
    (is : IsLogged w k made more)
    (next : (p : Place) → IsIn p w → w.last_writer (suc k) p ≡ newer k (made p) (w.last_writer k p)) where
  earlier : (p : Place) (n : ℕ) → IsIn p w → from ≤ n → n ≤ k → w.last_writer n p ≡ logged (log ++ more) p n (w.last_writer from p)
  earlier p n there few fewer =
      is_log.finds p n there few fewer
      ∙ sym (logged-append log more p n (w.last_writer from p)
      ∙ later_idle k more p n (logged log p n (w.last_writer from p)) fewer is.at)

  now : (p : Place) → IsIn p w → w.last_writer (suc k) p ≡ logged (log ++ more) p (suc k) (w.last_writer from p)
  now p there =
      next p there
      ∙ ap (newer k (made p))
      (is_log.finds p k there low (omega arith) ∙ sym (one_more w k log p (w.last_writer from p) is_log.before))
      ∙ sym (logged-append log more p (suc k) (w.last_writer from p)
      ∙ is.finds p (logged log p (suc k) (w.last_writer from p)) there)

  finds : (p : Place) (n : ℕ) → IsIn p w → from ≤ n → n ≤ suc k → w.last_writer n p ≡ logged (log ++ more) p n (w.last_writer from p)
  finds p n there few fewer = by (nat_lt k n) refl
    where
      by : (b : Bool) → nat_lt k n ≡ b → w.last_writer n p ≡ logged (log ++ more) p n (w.last_writer from p)
      by true e =
          let last : n ≡ suc k = grind (arith, nat_tests) in
          subst (λ m. w.last_writer m p ≡ logged (log ++ more) p m (w.last_writer from p)) (sym last) (now p there)
      by false e =
          let less : n ≤ k = grind (arith, nat_tests) in
          earlier p n there few less

  pub log_grown : IsLog w from (suc k) (log ++ more)
  log_grown = record {
    ascends = ascends-append w from k log more low is_log.ascends is_log.before is.at;
    before = before-append w (suc k) log more (before_more w k log is_log.before) is.before;
    finds = finds;
  }

-- ---- what a step logs, by the places that it may write

again : (k : ℕ) (made : Option Making) (f : Option Found) → newer k made (newer k made f) ≡ newer k made f
again k (Some m) f = refl
again k None f = refl

module _ (made : Place → Option Making) (k : ℕ) where
  this_now : nat_lt k (suc k) ≡ true
  this_now = grind (arith, nat_tests)

  of_one : (q p : Place) (m : Making) (b : Bool) → is_same q p ≡ b
      → is_of (record { place = q; found = record { before = k; making = m } }) p (suc k) ≡ b
  of_one q p m b e = ap (λ x. is_same q p && x) this_now ∙ and_true (is_same q p) ∙ e
    where
      and_true : (a : Bool) → (a && true) ≡ a
      and_true true = refl
      and_true false = refl

  one_found : (q p : Place) (f : Option Found) (b : Bool) (o : Option Making) → is_same q p ≡ b
      → logged (entry k q o) p (suc k) f ≡ (if b then newer k o f else f)
  one_found q p f b None e = sym (either b f)
    where
      either : (b : Bool) (f : Option Found) → (if b then f else f) ≡ f
      either true f = refl
      either false f = refl
  one_found q p f b (Some m) e = ap (λ x. if x then Some (record { before = k; making = m }) else f) (of_one q p m b e)

  twice : (q p : Place) (f : Option Found) (b among : Bool) → is_same q p ≡ b
      → (if among then newer k (made p) (if b then newer k (made q) f else f) else (if b then newer k (made q) f else f))
      ≡ (if b || among then newer k (made p) f else f)
  twice q p f true true e = ap (λ x. newer k (made p) (newer k (made x) f)) (same_is q p e) ∙ again k (made p) f
  twice q p f true false e = ap (λ x. newer k (made x) f) (same_is q p e)
  twice q p f false true e = refl
  twice q p f false false e = refl

  noted_finds : (ps : List Place) (p : Place) (f : Option Found)
      → logged (noted made k ps) p (suc k) f ≡ (if is_among p ps then newer k (made p) f else f)
  noted_finds [] p f = refl
  noted_finds (q ∷ qs) p f =
      logged-append (entry k q (made q)) (noted made k qs) p (suc k) f
      ∙ ap (logged (noted made k qs) p (suc k)) (one_found q p f (is_same q p) (made q) refl)
      ∙ noted_finds qs p (if is_same q p then newer k (made q) f else f)
      ∙ twice q p f (is_same q p) (is_among p qs) refl

  ascends_on : (q : Place) (o : Option Making) (rest : List Link) → Ascends k rest → Ascends k (entry k q o ++ rest)
  ascends_on q (Some m) rest up = (omega arith, up)
  ascends_on q None rest up = up

  noted_ascends : (ps : List Place) → Ascends k (noted made k ps)
  noted_ascends [] = tt
  noted_ascends (q ∷ qs) = ascends_on q (made q) (noted made k qs) (noted_ascends qs)

  pub noted-snoc : (ps : List Place) (q : Place) → noted made k (ps ++ q ∷ []) ≡ noted made k ps ++ entry k q (made q)
  noted-snoc [] q = append-nil (entry k q (made q))
  noted-snoc (p ∷ ps) q =
      ap (λ l. entry k p (made p) ++ l) (noted-snoc ps q) ∙ sym (append_assoc (entry k p (made p)) (noted made k ps) (entry k q (made q)))

  module _ (w : History) (sources : (p : Place) (m : Making) → made p ≡ Some m → IfSome (source m) (λ from. IsIn from w)) where
    before_on : (q : Place) (o : Option Making) (rest : List Link) → made q ≡ o → AreBefore w (suc k) rest
        → AreBefore w (suc k) (entry k q o ++ rest)
    before_on q (Some m) rest e are = (omega arith, sources q m e, are)
    before_on q None rest e are = are

    noted_before : (ps : List Place) → AreBefore w (suc k) (noted made k ps)
    noted_before [] = tt
    noted_before (q ∷ qs) = before_on q (made q) (noted made k qs) refl (noted_before qs)

    -- where nothing else is made
    pub noted_logged : (ps : List Place) (all : Place → Option Making)
        → ((p : Place) → IsIn p w → made p ≡ all p)
        → ((p : Place) → IsIn p w → is_among p ps ≡ false → all p ≡ None) → IsLogged w k all (noted made k ps)
    noted_logged ps all same others = record {
      at = noted_ascends ps;
      before = noted_before ps;
      finds = λ p f there. noted_finds ps p f ∙ ap (λ o. if is_among p ps then newer k o f else f) (same p there)
          ∙ by p f there (is_among p ps) refl;
    }
      where
        by : (p : Place) (f : Option Found) → IsIn p w → (b : Bool) → is_among p ps ≡ b
            → (if b then newer k (all p) f else f) ≡ newer k (all p) f
        by p f there true e = refl
        by p f there false e = ap (λ o. newer k o f) (sym (others p there e))

-- a tick and a byte log nothing
pub none_logged : (w : History) (k : ℕ) → IsLogged w k (λ p. None) []
none_logged w k = record { at = tt; before = tt; finds = λ p f there. refl }
