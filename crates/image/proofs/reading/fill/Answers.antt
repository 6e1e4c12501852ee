use Rattle.std.proofs.Common.{arith, rules, ℕ, ◌≡◌, ◌+◌, ◌≤◌, List, ◌++◌, length, take, ◌∙◌, ap, sym}
use Rattle.std.proofs.lemmas.List.{take-append-le, length-append, length-take-le}
use Rattle.std.proofs.Math.Seq.{take-append-add}
use Rattle.std.proofs.KnownBytes.{Consumes-trans}
use borrow.Rule.Slice.PartMut.{put_mid, post_of}
use Rattle.image.proofs.reading.fill.Goals as goal

-- n bytes more, once they are read into the rest of the buffer
one_more : (at n : ℕ) (buffer read : List ℕ) (k : ℕ) → at ≤ length buffer → n ≤ length read
    → take (at + n) (put_mid at k buffer read) ≡ take at buffer ++ take n read
one_more at n buffer read k within few =
    let front : length (take at buffer) ≡ at = length-take-le at buffer within in
    let added = take-append-add (take at buffer) (read ++ post_of at k buffer) n in
    ap (λ m. take (m + n) (put_mid at k buffer read)) (sym front)
    ∙ added ∙ ap (λ s. take at buffer ++ s) (take-append-le n read (post_of at k buffer) few)

-- and the buffer has room for them
still_within : (at n : ℕ) (buffer read : List ℕ) (k : ℕ) → at ≤ length buffer → n ≤ length read
    → at + n ≤ length (put_mid at k buffer read)
still_within at n buffer read k within few =
    let front : length (take at buffer) ≡ at = length-take-le at buffer within in
    simp length-append (omega (arith, front, few))

pub loop-at-preserved : goal.loop-at-preserved
loop-at-preserved g c =
    let few : c.in_ok-count.count ≤ length c.read.new.buffer = search rules in
    let within : c.loop-at.at ≤ length c.loop-at.buffer = search rules in
    record {
      within = still_within c.loop-at.at c.in_ok-count.count c.loop-at.buffer c.read.new.buffer _ within few;
      read = rw (one_more c.loop-at.at c.in_ok-count.count c.loop-at.buffer c.read.new.buffer _ within few)
          (Consumes-trans _ _ _ _ _ c.loop-at.invariant.read c.in_ok-count.ensures.bytes.0);
      count = search rules;
    }

pub returns-then-count-eq0-clause-count : goal.returns-then-count-eq0-clause-count
returns-then-count-eq0-clause-count g c = search rules
