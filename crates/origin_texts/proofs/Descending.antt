-- Links are gone down, window by window, to the first whose source had its tag.
use Rattle.std.proofs.Common.{◌≡◌, ℕ, zero, suc, ◌+◌, ◌<◌, ◌≤◌, List, [], ◌∷◌, ◌++◌, length, take, drop, get_or, refl, sym, ap, subst, ◌∙◌}
use Rattle.std.proofs.Common.{arith, append_assoc, append-nil, take_all}
use Rattle.std.specs.Prelude.{Bool, true, false, if◌then◌else◌, Option, Some, None, IfSome, option_map}
use Rattle.origins.specs.declared.making.Making.{Making}
use Rattle.origins.specs.declared.making.Making.TheVariants.{Number}
use Rattle.origins.specs.declared.place.Place.{Place}
use Rattle.origins.specs.declared.place.Place.TheVariants.{Register, Special, Granule}
use Rattle.past.specs.Given.{PastState, count_of}
use Rattle.past.specs.Replay.{ReplayState}
use Rattle.origin_texts.specs.Chain.{History, no_links, whole_chain}
use Rattle.origin_texts.specs.Down.{IsDown}
use Rattle.origin_texts.specs.Log.{AreLinks, Begins, Follows, IsIn, LeadDown, above, chain_from}
use Rattle.origin_texts.specs.Lost.{below, data_end, data_of, down_to_tag, end_of, granule_of, was_tagged}
use Rattle.origin_texts.specs.Origin.{history}
use Rattle.origin_texts.specs.declared.log.Link.{Link}
use Rattle.origin_texts.proofs.Telling.{AreLeft}

-- ---- lists

pub drop_next : (i : ℕ) (xs : List Link) (d : Link) → i < length xs → drop i xs ≡ get_or xs i d ∷ drop (suc i) xs
drop_next i [] d few = absurd (omega (arith, few))
drop_next zero (x ∷ xs) d few = refl
drop_next (suc i) (x ∷ xs) d few = drop_next i xs d (omega (arith, few))

pub drop_of_first : (i n : ℕ) (xs : List Link) (d : Link) → i < n → n ≤ length xs
    → drop i (take n xs) ≡ get_or xs i d ∷ drop (suc i) (take n xs)
drop_of_first i zero xs d less few = absurd (omega (arith, less))
drop_of_first i (suc n) [] d less few = absurd (omega (arith, few))
drop_of_first zero (suc n) (x ∷ xs) d less few = refl
drop_of_first (suc i) (suc n) (x ∷ xs) d less few = drop_of_first i n xs d (omega (arith, less)) (omega (arith, few))

none_of_first : (n : ℕ) (xs : List Link) → drop n (take n xs) ≡ []
none_of_first zero xs = refl
none_of_first (suc n) [] = refl
none_of_first (suc n) (x ∷ xs) = none_of_first n xs

pub one_of_first : (i : ℕ) (xs : List Link) (d : Link) → i < length xs → drop i (take (suc i) xs) ≡ get_or xs i d ∷ []
one_of_first i xs d few =
    drop_of_first i (suc i) xs d (omega arith) (omega (arith, few)) ∙ ap (λ l. get_or xs i d ∷ l) (none_of_first (suc i) xs)

first_and_rest : (n : ℕ) (xs : List Link) → take n xs ++ drop n xs ≡ xs
first_and_rest zero xs = refl
first_and_rest (suc n) [] = refl
first_and_rest (suc n) (x ∷ xs) = ap (λ l. x ∷ l) (first_and_rest n xs)

pub none_left : (n : ℕ) (xs : List Link) → length xs ≤ n → drop n xs ≡ []
none_left zero [] all = refl
none_left zero (x ∷ xs) all = absurd (omega (arith, all))
none_left (suc n) [] all = refl
none_left (suc n) (x ∷ xs) all = none_left n xs (omega (arith, all))

-- ---- the first link whose source had its tag

abbrev if_down : Bool → Link → Option (List Link) → Option (List Link)
if_down b x o = if b then Some (x ∷ []) else option_map (λ rest. x ∷ rest) o

none_below : (b : Bool) (x : Link) (o : Option (List Link)) → if_down b x o ≡ None → (b ≡ false) × (o ≡ None)
none_below true x o e = absurd (cc)
none_below false x None e = (refl, refl)
none_below false x (Some l) e = absurd (cc)

found_below : (b : Bool) (x : Link) (o p : Option (List Link)) (zs : List Link) → ((ws : List Link) → o ≡ Some ws → p ≡ Some ws)
    → if_down b x o ≡ Some zs → if_down b x p ≡ Some zs
found_below true x o p zs f e = e
found_below false x None p zs f e = absurd (cc)
found_below false x (Some ws) p zs f e = ap (option_map (λ rest. x ∷ rest)) (f ws refl) ∙ e

below_none : (o : Option (List Link)) → o ≡ option_map (λ rest. [] ++ rest) o
below_none None = refl
below_none (Some l) = refl

below_more : (x : Link) (xs : List Link) (o : Option (List Link))
    → option_map (λ rest. x ∷ rest) (option_map (λ rest. xs ++ rest) o) ≡ option_map (λ rest. x ∷ xs ++ rest) o
below_more x xs None = refl
below_more x xs (Some l) = refl

module _ (past : PastState) (replay : Option ReplayState) where
  pub down-append : (xs ys : List Link) → down_to_tag past replay xs ≡ None
      → down_to_tag past replay (xs ++ ys) ≡ option_map (λ rest. xs ++ rest) (down_to_tag past replay ys)
  down-append [] ys none = below_none (down_to_tag past replay ys)
  down-append (x ∷ xs) ys none =
      let parts = none_below (was_tagged past replay x) x (down_to_tag past replay xs) none in
      ap (λ b. if_down b x (down_to_tag past replay (xs ++ ys))) parts.0
      ∙ ap (option_map (λ rest. x ∷ rest)) (down-append xs ys parts.1)
      ∙ below_more x xs (down_to_tag past replay ys)

  pub down-found : (xs ys zs : List Link) → down_to_tag past replay xs ≡ Some zs → down_to_tag past replay (xs ++ ys) ≡ Some zs
  down-found [] ys zs e = absurd (cc)
  down-found (x ∷ xs) ys zs e =
      found_below (was_tagged past replay x) x (down_to_tag past replay xs) (down_to_tag past replay (xs ++ ys)) zs
      (λ ws is. down-found xs ys ws is) e

  -- ---- one link up

  pub one_up : (links : List Link) (i : ℕ) (d : Link) (b : Bool) (found : Option ℕ) → i < length links
      → IfSome found (λ n. (suc i ≤ n) × (n ≤ length links)) → b ≡ was_tagged past replay (get_or links i d)
      → option_map (λ n. drop (suc i) (take n links)) found ≡ down_to_tag past replay (drop (suc i) links)
      → option_map (λ n. drop i (take n links)) (if b then Some (suc i) else found) ≡ down_to_tag past replay (drop i links)
  one_up links i d b found few within tagged is =
      by b found within is ∙ ap (λ t. if_down t (get_or links i d) (down_to_tag past replay (drop (suc i) links))) tagged
      ∙ ap (down_to_tag past replay) (sym (drop_next i links d few))
    where
      more : (found : Option ℕ) → IfSome found (λ n. (suc i ≤ n) × (n ≤ length links))
          → option_map (λ n. drop i (take n links)) found
          ≡ option_map (λ rest. get_or links i d ∷ rest) (option_map (λ n. drop (suc i) (take n links)) found)
      more None within = refl
      more (Some n) within = ap Some (drop_of_first i n links d within.0 within.1)

      by : (b : Bool) (found : Option ℕ) → IfSome found (λ n. (suc i ≤ n) × (n ≤ length links))
          → option_map (λ n. drop (suc i) (take n links)) found ≡ down_to_tag past replay (drop (suc i) links)
          → option_map (λ n. drop i (take n links)) (if b then Some (suc i) else found)
          ≡ if_down b (get_or links i d) (down_to_tag past replay (drop (suc i) links))
      by true found within is = ap Some (one_of_first i links d few)
      by false found within is = more found within ∙ ap (option_map (λ rest. get_or links i d ∷ rest)) is

-- ---- links after links

pub lead-append : (h : History) (top middle low : ℕ) (xs ys : List Link) → LeadDown h top middle xs → LeadDown h middle low ys
    → LeadDown h top low (xs ++ ys)
lead-append h top middle low [] ys down more = subst (λ n. LeadDown h n low ys) down more
lead-append h top middle low (x ∷ xs) ys down more = (down.0, down.1, lead-append h x.found.before middle low xs ys down.2 more)

pub lead-first : (h : History) (top low : ℕ) (xs ys : List Link) → LeadDown h top low (xs ++ ys) → AreLinks h top xs
lead-first h top low [] ys down = record { low = top; leads = refl }
lead-first h top low (x ∷ xs) ys down =
    let rest = lead-first h x.found.before low xs ys down.2 in
    record { low = rest.low; leads = (down.0, down.1, rest.leads) }

abbrev lowest : ℕ → List Link → ℕ → ℕ
lowest low [] n = low
lowest low (l ∷ ls) n = n

lead_on : (h : History) (low left n : ℕ) (place : Place) (more : List Link) (next : Option Place)
    → h.last_writer low place ≡ h.last_writer left place → Begins place more next → LeadDown h left n more
    → LeadDown h low (lowest low more n) more
lead_on h low left n place [] next on begins down = refl
lead_on h low left n place (l ∷ ls) next on begins down =
    (down.0, ap (h.last_writer low) begins ∙ on ∙ ap (h.last_writer left) (sym begins) ∙ down.1, down.2)

place_on : (h : History) (low left n from : ℕ) (place next : Place) (more : List Link)
    → h.last_writer low place ≡ h.last_writer left place → Begins place more (Some next) → LeadDown h left n more
    → h.last_writer n next ≡ h.last_writer from next → h.last_writer (lowest low more n) next ≡ h.last_writer from next
place_on h low left n from place next [] on begins down later =
    let same : next ≡ place = cc in
    ap (h.last_writer low) same ∙ on ∙ ap (h.last_writer left) (sym same) ∙ ap (λ k. h.last_writer k next) (sym down) ∙ later
place_on h low left n from place next (l ∷ ls) on begins down later = later

-- ---- links from the oldest up

pub some_before : (h : History) (top n : ℕ) (links : List Link) → length links ≤ n → AreLinks h top links → AreLeft h 0 (take n links)
some_before h top n links all are = record {
  top = top;
  low = are.low;
  later = omega arith;
  leads = subst (LeadDown h top are.low) (sym (take_all n links all)) are.leads;
}

pub met_too : (h : History) (n : ℕ) (links : List Link) → AreLeft h (n + 1) links → AreLeft h n links
met_too h n links left = record { top = left.top; low = left.low; later = omega (arith, left.later); leads = left.leads }

pub few_too : (found : Option ℕ) (b : Bool) (i n : ℕ) → i < n → IfSome found (λ k. (suc i ≤ k) × (k ≤ n))
    → IfSome (if b then Some (suc i) else found) (λ k. (i ≤ k) × (k ≤ n))
few_too found true i n less few = (omega arith, omega (arith, less))
few_too (Some k) false i n less few = (omega (arith, few.0), few.1)
few_too None false i n less few = tt

-- ---- a chain that is gone down, of which no source had its tag so far

module _ (past : PastState) (replay : Option ReplayState) (first : Place) where
  h : History
  h = history past replay

  pub record IsGoing (links : List Link) (place : Place) (left : ℕ) : Type 0 where
    pub there : IsIn place (history past replay)
    pub low : ℕ
    pub leads : LeadDown (history past replay) (count_of past.given) low links
    pub on : (history past replay).last_writer low place ≡ (history past replay).last_writer left place
    pub chain : whole_chain (history past replay).last_writer first (count_of past.given)
        ≡ above links (whole_chain (history past replay).last_writer place left)
    pub none : down_to_tag past replay links ≡ None

  pub none_gone : (n : ℕ) → n ≡ count_of past.given → IsIn first (history past replay) → IsGoing [] first n
  none_gone n is there = record {
    there = there;
    low = n;
    leads = is;
    on = refl;
    chain = ap (whole_chain (history past replay).last_writer first) (sym is);
    none = refl;
  }

  module _ (links more : List Link) (place : Place) (from left : ℕ) (next : Option Place) (is : IsGoing links place left)
      (follows : Follows (history past replay) from left place more next) where
    leading : LeadDown (history past replay) (count_of past.given) (lowest is.low more follows.are_links.low) (links ++ more)
    leading =
        lead-append (history past replay) (count_of past.given) is.low (lowest is.low more follows.are_links.low) links more is.leads
        (lead_on (history past replay) is.low left follows.are_links.low place more next is.on follows.begins follows.are_links.leads)

    chained : whole_chain (history past replay).last_writer first (count_of past.given)
        ≡ above (links ++ more) (chain_from (history past replay) next from)
    chained =
        is.chain ∙ ap (above links) follows.chain
        ∙ ap (λ ls. record { links = ls; opening = (chain_from (history past replay) next from).opening })
        (sym (append_assoc links more (chain_from (history past replay) next from).links))

    links_are : (whole_chain (history past replay).last_writer first (count_of past.given)).links
        ≡ links ++ (more ++ (chain_from (history past replay) next from).links)
    links_are = ap (λ c. c.links) chained ∙ append_assoc links more (chain_from (history past replay) next from).links

    -- a source had its tag
    pub at_tag : (n : ℕ) → Some (take n more) ≡ down_to_tag past replay more → IsDown past replay first (links ++ take n more) true
    at_tag n tag =
        let whole : (links ++ take n more) ++ drop n more ≡ links ++ more =
        append_assoc links (take n more) (drop n more) ∙ ap (λ l. links ++ l) (first_and_rest n more) in
        record {
          are = lead-first (history past replay) (count_of past.given) (lowest is.low more follows.are_links.low) (links ++ take n more)
              (drop n more)
              (subst (LeadDown (history past replay) (count_of past.given) (lowest is.low more follows.are_links.low)) (sym whole) leading);
          down = ap (down_to_tag past replay) links_are
              ∙ down-append past replay links (more ++ (chain_from (history past replay) next from).links) is.none
              ∙ ap (option_map (λ rest. links ++ rest))
              (down-found past replay more (chain_from (history past replay) next from).links (take n more) (sym tag));
          all = λ e. absurd (cc);
        }

    module _ (none : None ≡ down_to_tag past replay more) where
      none_down : down_to_tag past replay (links ++ more) ≡ None
      none_down = down-append past replay links more is.none ∙ ap (option_map (λ rest. links ++ rest)) (sym none)

      pub going_on : (place_on : Place) → next ≡ Some place_on → IsGoing (links ++ more) place_on from
      going_on p e = record {
        there = subst (λ o. IfSome o (λ p. IsIn p (history past replay))) e follows.there;
        low = lowest is.low more follows.are_links.low;
        leads = leading;
        on = place_on (history past replay) is.low left follows.are_links.low from place p more is.on
            (subst (Begins place more) e follows.begins) follows.are_links.leads
            (subst
            (λ o. IfSome o (λ p. (history past replay).last_writer follows.are_links.low p ≡ (history past replay).last_writer from p)) e
            follows.on);
        chain = chained ∙ ap (λ o. above (links ++ more) (chain_from (history past replay) o from)) e;
        none = none_down;
      }

      pub at_end : next ≡ None → IsDown past replay first (links ++ more) false
      at_end e =
          let all : (whole_chain (history past replay).last_writer first (count_of past.given)).links ≡ links ++ more =
          ap (λ c. c.links) chained ∙ ap (λ o. (links ++ more) ++ (chain_from (history past replay) o from).links) e
          ∙ append-nil (links ++ more) in
          record {
            are = record { low = lowest is.low more follows.are_links.low; leads = leading };
            down = ap (down_to_tag past replay) all ∙ none_down;
            all = λ same. all;
          }

  -- down to the opening state
  pub at_opening : (links : List Link) (place : Place) (left : ℕ) → IsGoing links place left
      → whole_chain (history past replay).last_writer place left ≡ no_links (Some place) → IsDown past replay first links false
  at_opening links place left is none =
      let all : (whole_chain (history past replay).last_writer first (count_of past.given)).links ≡ links =
      ap (λ c. c.links) is.chain ∙ ap (λ c. links ++ c.links) none ∙ append-nil links in
      record {
        are = record { low = is.low; leads = is.leads };
        down = ap (down_to_tag past replay) all ∙ is.none;
        all = λ same. all;
      }

-- ---- data at the end

pub data_end-none : (xs : List Link) (l : Link) → data_of l ≡ None → data_end (xs ++ l ∷ []) ≡ None
data_end-none [] l e = ap (end_of l) e
data_end-none (x ∷ []) l e = ap (option_map (below x)) (data_end-none [] l e)
data_end-none (x ∷ y ∷ ys) l e = ap (option_map (below x)) (data_end-none (y ∷ ys) l e)

pub data_end-some : (xs : List Link) (l : Link) (granule : ℕ) → data_of l ≡ Some granule
    → data_end (xs ++ l ∷ []) ≡ Some (record { above = xs; granule = granule; store = l.found.before })
data_end-some [] l granule e = ap (end_of l) e
data_end-some (x ∷ []) l granule e = ap (option_map (below x)) (data_end-some [] l granule e)
data_end-some (x ∷ y ∷ ys) l granule e = ap (option_map (below x)) (data_end-some (y ∷ ys) l granule e)

data_by : (p : Place) (making : Making) (granule : ℕ) → granule_of p making ≡ Some granule → p ≡ Granule granule
data_by (Granule address) Number granule e =
    let same : address ≡ granule = cc in
    ap Granule same
data_by (Register n) making granule e = absurd (cc)
data_by (Special n) making granule e = absurd (cc)
data_by (Granule address) making granule e = absurd (cc)

pub data_place : (l : Link) (granule : ℕ) → data_of l ≡ Some granule → l.place ≡ Granule granule
data_place l granule e = data_by l.place l.found.making granule e
