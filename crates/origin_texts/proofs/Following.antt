-- A place is followed through a log from its end.
use Rattle.std.proofs.Common.{◌≡◌, ℕ, zero, suc, ◌+◌, ◌<◌, ◌≤◌, List, [], ◌∷◌}
use Rattle.std.proofs.Common.{◌++◌, length, take, drop, get_or, refl, sym, ap, subst, ◌∙◌, arith}
use Rattle.std.proofs.Common.{append_assoc, take_all}
use Rattle.std.proofs.lemmas.Bool.Decides.{nat_tests}
use Rattle.std.proofs.lemmas.List.{take_more}
use Rattle.std.specs.Prelude.{Bool, true, false, if◌then◌else◌, nat_lt, ◌&&◌, Option, Some, None, IfSome}
use Rattle.origins.specs.Making.{source}
use Rattle.origins.specs.declared.place.Place.{Place}
use Rattle.origins.specs.declared.place.Place.TheVariants.{Register, Special, Granule}
use Rattle.origins.specs.declared.search.Found.{Found}
use Rattle.origins.specs.declared.making.Making.TheVariants.{Number}
use Rattle.origin_texts.specs.declared.log.Link.{Link}
use Rattle.origin_texts.specs.Chain.{Chain, History, chain, chain_by, follow_on, link_at, linked, whole_chain}
use Rattle.origin_texts.specs.Log.{AreBefore, Ascends, Begins, IsHistory, IsIn, IsLog}
use Rattle.origin_texts.specs.Log.{Follows, LeadDown, above, chain_from, is_of, is_same, logged}

-- what is read past a log's end
abbrev pub no_link : Link
no_link = record { place = Register 0; found = record { before = 0; making = Number } }

-- a place that is followed: the links that were found, and what of the log is left
pub record IsFollowed (w : History) (from to : ℕ) (log : List Link) (first : Place) (links : List Link) (left : ℕ)
    (place : Place) (events : ℕ) : Type 0 where
  pub there : IsIn place w
  pub low : from ≤ events
  pub high : events ≤ to
  pub finds : w.last_writer events place ≡ logged (take left log) place events (w.last_writer from place)
  pub chain : whole_chain w.last_writer first to ≡ above links (whole_chain w.last_writer place events)
  pub leads : LeadDown w to events links
  pub begins : Begins first links (Some place)

begins-snoc : (first place : Place) (ls : List Link) (l : Link) (next : Option Place) → Begins first ls (Some place) → l.place ≡ place
    → Begins first (ls ++ l ∷ []) next
begins-snoc first place [] l next is same =
    let at : place ≡ first = cc in
    same ∙ at
begins-snoc first place (x ∷ xs) l next is same = is

-- ---- logs

pub same_is : (p q : Place) → is_same p q ≡ true → p ≡ q
same_is (Register n) (Register m) e = ap Register (grind (arith, nat_tests))
same_is (Special n) (Special m) e = ap Special (grind (arith, nat_tests))
same_is (Granule n) (Granule m) e = ap Granule (grind (arith, nat_tests))
same_is (Register n) (Special m) e = absurd (cc)
same_is (Register n) (Granule m) e = absurd (cc)
same_is (Special n) (Register m) e = absurd (cc)
same_is (Special n) (Granule m) e = absurd (cc)
same_is (Granule n) (Register m) e = absurd (cc)
same_is (Granule n) (Special m) e = absurd (cc)

both_first : (a b : Bool) → (a && b) ≡ true → a ≡ true
both_first true b e = refl
both_first false b e = absurd (cc)

of_place : (l : Link) (p : Place) (n : ℕ) → is_of l p n ≡ true → l.place ≡ p
of_place l p n e = same_is l.place p (both_first (is_same l.place p) (nat_lt l.found.before n) e)

and_false : (a : Bool) → (a && false) ≡ false
and_false true = refl
and_false false = refl

not_of : (l : Link) (p : Place) (n : ℕ) → n ≤ l.found.before → is_of l p n ≡ false
not_of l p n late =
    let test : nat_lt l.found.before n ≡ false = grind (arith, nat_tests) in
    ap (λ b. is_same l.place p && b) test ∙ and_false (is_same l.place p)

pub logged-append : (xs ys : List Link) (p : Place) (n : ℕ) (f : Option Found) → logged (xs ++ ys) p n f ≡ logged ys p n (logged xs p n f)
logged-append [] ys p n f = refl
logged-append (x ∷ xs) ys p n f = logged-append xs ys p n (if is_of x p n then Some x.found else f)

-- events that are not among the first n
pub later_idle : (low : ℕ) (xs : List Link) (p : Place) (n : ℕ) (f : Option Found) → n ≤ low → Ascends low xs → logged xs p n f ≡ f
later_idle low [] p n f late up = refl
later_idle low (x ∷ xs) p n f late up =
    ap (λ b. logged xs p n (if b then Some x.found else f)) (not_of x p n (omega (arith, late, up.0)))
    ∙ later_idle x.found.before xs p n f (omega (arith, late, up.0)) up.1

-- the one at a place and those after it
from_there : (low : ℕ) (log : List Link) (i : ℕ) (d : Link) → i < length log → Ascends low log
    → (low ≤ (get_or log i d).found.before) × Ascends (get_or log i d).found.before (drop i log)
from_there low [] i d few up = absurd (omega (arith, few))
from_there low (x ∷ xs) zero d few up = (up.0, (omega arith, up.1))
from_there low (x ∷ xs) (suc i) d few up =
    let rest = from_there x.found.before xs i d (omega (arith, few)) up.1 in
    (omega (arith, up.0, rest.0), rest.1)

take-drop : (i : ℕ) (xs : List Link) → take i xs ++ drop i xs ≡ xs
take-drop zero xs = refl
take-drop (suc i) [] = refl
take-drop (suc i) (x ∷ xs) = ap (λ l. x ∷ l) (take-drop i xs)

-- of what comes before an entry's event those after it say nothing
before_it : (low : ℕ) (log : List Link) (i : ℕ) (d : Link) (p : Place) (f : Option Found) → i < length log → Ascends low log
    → logged log p (get_or log i d).found.before f ≡ logged (take i log) p (get_or log i d).found.before f
before_it low log i d p f few up =
    let n = (get_or log i d).found.before in
    ap (λ l. logged l p n f) (sym (take-drop i log)) ∙ logged-append (take i log) (drop i log) p n f
    ∙ later_idle n (drop i log) p n (logged (take i log) p n f) (omega arith) (from_there low log i d few up).1

one_back : (log : List Link) (i : ℕ) (d : Link) (p : Place) (n : ℕ) (f : Option Found) → i < length log
    → logged (take (i + 1) log) p n f ≡ (if is_of (get_or log i d) p n then Some (get_or log i d).found else logged (take i log) p n f)
one_back log i d p n f few =
    ap (λ l. logged l p n f) (take_more log i d few) ∙ logged-append (take i log) (get_or log i d ∷ []) p n f

source_in : (w : History) (n : ℕ) (log : List Link) (i : ℕ) (d : Link) → i < length log → AreBefore w n log
    → IfSome (source (get_or log i d).found.making) (λ p. IsIn p w)
source_in w n [] i d few are = absurd (omega (arith, few))
source_in w n (x ∷ xs) zero d few are = are.1
source_in w n (x ∷ xs) (suc i) d few are = source_in w n xs i d (omega (arith, few)) are.2

-- ---- chains

module _ (w : History) (is : IsHistory w) where
  lw : ℕ → Place → Option Found
  lw = w.last_writer

  on_alike : (a b : ℕ) (from : Option Place) (m : ℕ) → ((p : Place) → chain w.last_writer a p m ≡ chain w.last_writer b p m)
      → follow_on (chain w.last_writer a) from m ≡ follow_on (chain w.last_writer b) from m
  on_alike a b (Some p) m alike = alike p
  on_alike a b None m alike = refl

  by_alike : (a b : ℕ) (p : Place) (n : ℕ) (found : Option Found) → w.last_writer n p ≡ found
      → ((q : Place) (m : ℕ) → m < n → chain w.last_writer a q m ≡ chain w.last_writer b q m)
      → chain_by (chain w.last_writer a) p found ≡ chain_by (chain w.last_writer b) p found
  by_alike a b p n None e alike = refl
  by_alike a b p n (Some f) e alike =
      ap (linked (link_at p f)) (on_alike a b (source f.making) f.before (λ q. alike q f.before (is.early n p f e)))

  enough : (a b : ℕ) (p : Place) (n : ℕ) → n < a → n < b → chain w.last_writer a p n ≡ chain w.last_writer b p n
  enough zero b p n few fewer = absurd (omega (arith, few))
  enough (suc a) zero p n few fewer = absurd (omega (arith, fewer))
  enough (suc a) (suc b) p n few fewer =
      by_alike a b p n (w.last_writer n p) refl (λ q m less. enough a b q m (omega (arith, few, less)) (omega (arith, fewer, less)))

  -- where nothing wrote it between
  unwritten : (p : Place) (n m : ℕ) → m ≤ n → w.last_writer n p ≡ w.last_writer m p
      → whole_chain w.last_writer p n ≡ whole_chain w.last_writer p m
  unwritten p n m few e =
      ap (chain_by (chain w.last_writer n) p) e
      ∙ by_alike n m p m (w.last_writer m p) refl (λ q k less. enough n m q k (omega (arith, few, less)) less)

  rest_of : (from : Option Place) (n m : ℕ) → m < n → follow_on (chain w.last_writer n) from m ≡ chain_from w from m
  rest_of (Some p) n m few = enough n (suc m) p m few (omega arith)
  rest_of None n m few = refl

  -- one link
  pub one_link : (l : Link) (p : Place) (n : ℕ) → l.place ≡ p → w.last_writer n p ≡ Some l.found
      → whole_chain w.last_writer p n ≡ linked l (chain_from w (source l.found.making) l.found.before)
  one_link l p n same e =
      ap (chain_by (chain w.last_writer n) p) e
      ∙ ap (λ q. linked (link_at q l.found) (follow_on (chain w.last_writer n) (source l.found.making) l.found.before)) (sym same)
      ∙ ap (linked l) (rest_of (source l.found.making) n l.found.before (is.early n p l.found e))

  above-snoc : (ls : List Link) (l : Link) (c : Chain) → above ls (linked l c) ≡ above (ls ++ l ∷ []) c
  above-snoc ls l c = ap (λ x. record { links = x; opening = c.opening }) (sym (append_assoc ls (l ∷ []) c.links))

  lead_on : (top low : ℕ) (ls : List Link) (l : Link) → LeadDown w top low ls → IsIn l.place w → w.last_writer low l.place ≡ Some l.found
      → LeadDown w top l.found.before (ls ++ l ∷ [])
  lead_on top low [] l down there found = (there, ap (λ n. w.last_writer n l.place) (sym down) ∙ found, refl)
  lead_on top low (x ∷ xs) l down there found = (down.0, down.1, lead_on x.found.before low xs l down.2 there found)

  -- ---- one entry of the log back

  module _ (from to : ℕ) (log : List Link) (is_log : IsLog w from to log) (first : Place) (links : List Link) (i : ℕ) (d : Link)
      (place : Place) (events : ℕ) (few : i < length log) (is_followed : IsFollowed w from to log first links (i + 1) place events) where
    entry : Link
    entry = get_or log i d

    back : (b : Bool) → is_of (get_or log i d) place events ≡ b → w.last_writer events place
        ≡ (if b then Some (get_or log i d).found else logged (take i log) place events (w.last_writer from place))
    back b e =
        is_followed.finds ∙ one_back log i d place events (w.last_writer from place) few
        ∙ ap (λ b. if b then Some (get_or log i d).found else logged (take i log) place events (w.last_writer from place)) e

    pub passed : is_of (get_or log i d) place events ≡ false → IsFollowed w from to log first links i place events
    passed e = record {
      there = is_followed.there;
      low = is_followed.low;
      high = is_followed.high;
      finds = back false e;
      chain = is_followed.chain;
      leads = is_followed.leads;
      begins = is_followed.begins;
    }

    module _ (e : is_of (get_or log i d) place events ≡ true) where
      same : (get_or log i d).place ≡ place
      same = of_place (get_or log i d) place events e

      found : w.last_writer events place ≡ Some (get_or log i d).found
      found = back true e

      below : (get_or log i d).found.before < events
      below = is.early events place (get_or log i d).found found

      above_low : from ≤ (get_or log i d).found.before
      above_low = (from_there from log i d few is_log.ascends).0

      chained : whole_chain w.last_writer first to
          ≡ above (links ++ get_or log i d ∷ []) (chain_from w (source (get_or log i d).found.making) (get_or log i d).found.before)
      chained =
          is_followed.chain ∙ ap (above links) (one_link (get_or log i d) place events same found)
          ∙ above-snoc links (get_or log i d) (chain_from w (source (get_or log i d).found.making) (get_or log i d).found.before)

      leading : LeadDown w to (get_or log i d).found.before (links ++ get_or log i d ∷ [])
      leading =
          lead_on to events links (get_or log i d) is_followed.leads (subst (λ p. IsIn p w) (sym same) is_followed.there)
          (ap (w.last_writer events) same ∙ found)

      pub linked_on : (next : Place) → source (get_or log i d).found.making ≡ Some next
          → IsFollowed w from to log first (links ++ get_or log i d ∷ []) i next (get_or log i d).found.before
      linked_on next s =
          let there : IsIn next w =
          subst (λ o. IfSome o (λ p. IsIn p w)) s (source_in w to log i d few is_log.before) in
          record {
            there = there;
            low = above_low;
            high = omega (arith, below, is_followed.high);
            finds = is_log.finds next (get_or log i d).found.before there above_low (omega (arith, below, is_followed.high))
                ∙ before_it from log i d next (w.last_writer from next) few is_log.ascends;
            chain = chained
                ∙ ap (λ o. above (links ++ get_or log i d ∷ []) (chain_from w o (get_or log i d).found.before)) s;
            leads = leading;
            begins = begins-snoc first place links (get_or log i d) (Some next) is_followed.begins same;
          }

      pub at_number : source (get_or log i d).found.making ≡ None → Follows w from to first (links ++ get_or log i d ∷ []) None
      at_number s = record {
        chain = chained ∙ ap (λ o. above (links ++ get_or log i d ∷ []) (chain_from w o (get_or log i d).found.before)) s;
        are_links = record { low = (get_or log i d).found.before; leads = leading };
        there = tt;
        begins = begins-snoc first place links (get_or log i d) None is_followed.begins same;
        on = tt;
      }

  -- at the log's beginning
  pub all_followed : (from to : ℕ) (log : List Link) (first : Place) (links : List Link) (place : Place) (events : ℕ)
      → IsFollowed w from to log first links 0 place events → Follows w from to first links (Some place)
  all_followed from to log first links place events is_followed = record {
    chain = is_followed.chain ∙ ap (above links) (unwritten place events from is_followed.low is_followed.finds);
    are_links = record { low = events; leads = is_followed.leads };
    there = is_followed.there;
    begins = is_followed.begins;
    on = is_followed.finds;
  }

  -- at its end
  pub none_followed : (from to : ℕ) (log : List Link) (place : Place) (n : ℕ) → n ≡ length log → IsIn place w → from ≤ to
      → IsLog w from to log
      → IsFollowed w from to log place [] n place to
  none_followed from to log place n all there low is_log = record {
    there = there;
    low = low;
    high = omega arith;
    finds = is_log.finds place to there low (omega arith)
        ∙ ap (λ l. logged l place to (w.last_writer from place)) (sym (take_all n log (omega (arith, all))));
    chain = refl;
    leads = refl;
    begins = refl;
  }
