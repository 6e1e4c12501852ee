-- Links are told, from the oldest on, and then met from the newest on.
use Rattle.std.proofs.Common.{◌≡◌, ℕ, ◌+◌, ◌≤◌, List, [], ◌∷◌, ◌++◌, refl, sym, ap, subst, ◌∙◌, arith, append_assoc, append-nil}
use Rattle.std.specs.Prelude.{Option, Some, map}
use Rattle.past.specs.Given.{PastState}
use Rattle.past.specs.Replay.{ReplayState}
use Rattle.symbols.specs.Symbols.{Symbol}
use Rattle.origins.specs.declared.place.Place.{Place}
use Rattle.origin_texts.specs.Chain.{Chain, History, no_links}
use Rattle.origin_texts.specs.Held.{AreMet, IsStretch, as_told, ended, met, newest_first}
use Rattle.origin_texts.specs.Log.{IsHistory, IsIn, LeadDown, above}
use Rattle.origin_texts.specs.Origin.{chain_text, opening_line, told}
use Rattle.origin_texts.specs.Put.{IsPut}
use Rattle.origin_texts.specs.Stretches.{Told, stretch_text, stretch_texts, stretches}
use Rattle.origin_texts.specs.declared.log.Link.{Link}
use Rattle.origin_texts.specs.declared.stretch.Stretch.{Stretch}
use Rattle.origin_texts.specs.declared.told.Told as raw
use Rattle.origin_texts.specs.declared.told.Telling.TheVariants.{OfLinks}
use Rattle.origin_texts.proofs.Stretching.{text_met}

pub newest_first-snoc : (ts : List raw.Told) (t : raw.Told) → newest_first (ts ++ t ∷ []) ≡ as_told t ∷ newest_first ts
newest_first-snoc [] t = refl
newest_first-snoc (u ∷ us) t = ap (λ l. l ++ as_told u ∷ []) (newest_first-snoc us t)

map-append : (f : Link → Told) (xs ys : List Link) → map f (xs ++ ys) ≡ map f xs ++ map f ys
map-append f [] ys = refl
map-append f (x ∷ xs) ys = ap (λ l. f x ∷ l) (map-append f xs ys)

-- one link is told more
pub told_more : (f : Link → Told) (ls : List Link) (l : Link) (ts : List raw.Told) (t : raw.Told) (all : List Told) → as_told t ≡ f l
    → map f (ls ++ l ∷ []) ++ newest_first ts ≡ all → map f ls ++ newest_first (ts ++ t ∷ []) ≡ all
told_more f ls l ts t all is whole =
    ap (λ x. map f ls ++ x) (newest_first-snoc ts t ∙ ap (λ x. x ∷ newest_first ts) is)
    ∙ sym (append_assoc (map f ls) (f l ∷ []) (newest_first ts))
    ∙ ap (λ x. x ++ newest_first ts) (sym (map-append f ls (l ∷ [])))
    ∙ whole

-- ---- links from the oldest on

pub record IsOldest (h : History) (top : ℕ) (ls : List Link) (l : Link) (low : ℕ) : Type 0 where
  pub events : ℕ
  pub leads : LeadDown h top events ls
  pub there : IsIn l.place h
  pub found : h.last_writer events l.place ≡ Some l.found
  pub is_low : low ≡ l.found.before

pub oldest : (h : History) (top low : ℕ) (ls : List Link) (l : Link) → LeadDown h top low (ls ++ l ∷ []) → IsOldest h top ls l low
oldest h top low [] l down = record { events = top; leads = refl; there = down.0; found = down.1; is_low = down.2 }
oldest h top low (x ∷ xs) l down =
    let rest = oldest h x.found.before low xs l down.2 in
    record { events = rest.events; leads = (down.0, down.1, rest.leads); there = rest.there; found = rest.found; is_low = rest.is_low }

-- ---- what is told is met

-- some is met, and some is left
pub record IsMeeting (old new : List ℕ) (stretch : Stretch) (first all left : List Told) : Type 0 where
  pub links : List Told
  pub is : IsStretch stretch links
  pub text : (rest : List Told)
      → new ++ stretch_texts (stretches links (left ++ rest)) ≡ old ++ stretch_texts (stretches first (all ++ rest))

pub none_met : (old : List ℕ) (stretch : Stretch) (first all : List Told) → IsStretch stretch first
    → IsMeeting old old stretch first all all
none_met old stretch first all is = record { links = first; is = is; text = λ rest. refl }

pub all_met : (old new : List ℕ) (stretch : Stretch) (first all left : List Told) → left ≡ [] → IsMeeting old new stretch first all left
    → AreMet old new stretch first all
all_met old new stretch first all left none it = record {
  links = it.links;
  is = it.is;
  text = λ rest. ap (λ l. new ++ stretch_texts (stretches it.links (l ++ rest))) (sym none) ∙ it.text rest;
}

pub one_met : (old new more : List ℕ) (stretch later : Stretch) (first all left before : List Told) (t : Told) → before ≡ t ∷ left
    → (is : IsMeeting old new stretch first all before)
    → ((links : List Told) → IsStretch stretch links → IsStretch later (met links t))
    → ((links : List Told) → IsStretch stretch links → more ≡ new ++ ended links t)
    → IsMeeting old more later first all left
one_met old new more stretch later first all left before t are it stays text = record {
  links = met it.links t;
  is = stays it.links it.is;
  text = λ rest.
      ap (λ l. l ++ stretch_texts (stretches (met it.links t) (left ++ rest))) (text it.links it.is)
      ∙ append_assoc new (ended it.links t) (stretch_texts (stretches (met it.links t) (left ++ rest)))
      ∙ ap (λ l. new ++ l) (sym (text_met it.links t (left ++ rest)))
      ∙ ap (λ l. new ++ stretch_texts (stretches it.links (l ++ rest))) (sym are)
      ∙ it.text rest;
}

-- all of them are met, and the stretch that is left is appended
pub all_put : (old new put : List ℕ) (stretch : Stretch) (ts : List Told) → AreMet old new stretch [] ts
    → ((links : List Told) → IsStretch stretch links → put ≡ new ++ stretch_text links) → put ≡ old ++ stretch_texts (stretches [] ts)
all_put old new put stretch ts met puts =
    puts met.links met.is ∙ ap (λ l. new ++ l) (sym (append-nil (stretch_text met.links))) ∙ met.text []
    ∙ ap (λ l. old ++ stretch_texts (stretches [] l)) (append-nil ts)

-- ---- a window

module _ (symbols : List Symbol) (past : PastState) (replay : Option ReplayState) where
  pub window_put : (old new : List ℕ) (stretch later : Stretch) (links : List Link) (chain rest : Chain) (whole : List ℕ)
      → chain ≡ above links rest → IsPut symbols past replay old stretch chain whole
      → ((first : List Told) → IsStretch stretch first → AreMet old new later first (map (told symbols past replay OfLinks) links))
      → IsPut symbols past replay new later rest whole
  window_put old new stretch later links chain rest whole is put meets =
      let it = meets put.links put.is in
      record {
        links = it.links;
        is = it.is;
        text_is =
            sym (append_assoc new (stretch_texts (stretches it.links (map (told symbols past replay OfLinks) rest.links)))
            (opening_line symbols past rest.opening))
            ∙ ap (λ l. l ++ opening_line symbols past rest.opening) (it.text (map (told symbols past replay OfLinks) rest.links))
            ∙ append_assoc old
            (stretch_texts (stretches put.links
            (map (told symbols past replay OfLinks) links ++ map (told symbols past replay OfLinks) rest.links)))
            (opening_line symbols past rest.opening)
            ∙ ap (λ l. old ++ (stretch_texts (stretches put.links l) ++ opening_line symbols past rest.opening))
            (sym (map-append (told symbols past replay OfLinks) links rest.links))
            ∙ ap (λ c. old ++ chain_text symbols past replay put.links c) (sym is)
            ∙ put.text_is;
      }

  -- a chain that has no more links
  pub end_text : (links : List Told) (next : Option Place)
      → chain_text symbols past replay links (no_links next) ≡ stretch_text links ++ opening_line symbols past next
  end_text links next = ap (λ l. l ++ opening_line symbols past next) (append-nil (stretch_text links))

-- links that are still to be told, none of an event before these
pub record AreLeft (h : History) (met : ℕ) (links : List Link) : Type 0 where
  pub top : ℕ
  pub low : ℕ
  pub later : met ≤ low
  pub leads : LeadDown h top low links

-- the oldest of them
pub record IsNext (h : History) (met : ℕ) (links : List Link) (l : Link) : Type 0 where
  pub events : ℕ
  pub later : met ≤ l.found.before
  pub there : IsIn l.place h
  pub found : h.last_writer events l.place ≡ Some l.found
  pub left : AreLeft h (l.found.before + 1) links

pub next_left : (h : History) → IsHistory h → (met : ℕ) (links all : List Link) (l : Link) → all ≡ links ++ l ∷ [] → AreLeft h met all
    → IsNext h met links l
next_left h is met links all l e left =
    let it = oldest h left.top left.low links l (subst (LeadDown h left.top left.low) e left.leads) in
    record {
      events = it.events;
      later = omega (arith, left.later, it.is_low);
      there = it.there;
      found = it.found;
      left = record {
        top = left.top;
        low = it.events;
        later = let less = is.early it.events l.place l.found it.found in omega (arith, less);
        leads = it.leads;
      };
    }
