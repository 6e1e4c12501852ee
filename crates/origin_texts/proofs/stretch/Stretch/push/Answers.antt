use Rattle.std.proofs.Common.{◌≡◌, ◌++◌, ◌+◌, [], ◌∷◌, length, arith, ap, sym, ◌∙◌, subst}
use Rattle.std.specs.Prelude.{string_bytes}
use Rattle.origin_texts.specs.Held.{as_told, IsNewest}
use Rattle.origin_texts.proofs.Stretching.{count_more, lines_few, lines_many, newest_first, newest_more, oldest_more}
use Rattle.origin_texts.proofs.stretch.Stretch.push.Goals as goal
use Rattle.origin_texts.proofs.stretch.Stretch.push.Goals.{then-self-eq0, else-self-eq0}
use Rattle.origin_texts.proofs.stretch.Stretch.push.Goals.{then-self-lt-SHORT+in_ok-append, else-self-lt-SHORT}

pub returns : goal.returns
returns c = λ links is.
    let t = as_told c.args.older in
    let all = links ++ t ∷ [] in
    let one : c.in-Some.count ≡ c.args.self.now.count + 1 = omega (arith, c.in-Some.ensures) in
    let anew : string_bytes c.append-2.new.text ≡ t.line =
    c.in_ok-append-2.ensures.bytes ∙ ap (λ b. b ++ c.as_str-2.result.now) c.clear.ensures.bytes ∙ c.as_str-2.ensures.value in
    let counted : c.if-self-lt-SHORT.self.count ≡ length links =
    elim c.if-self-lt-SHORT.branch [
      | then-self-lt-SHORT+in_ok-append w ↦ ap (λ s. s.count) w.self-is ∙ is.count
      | else-self-lt-SHORT w ↦ ap (λ s. s.count) w.self-is ∙ is.count
    ] in
    let kept : as_told c.if-self-lt-SHORT.self.newest ≡ as_told c.args.self.now.newest =
    elim c.if-self-lt-SHORT.branch [
      | then-self-lt-SHORT+in_ok-append w ↦ ap (λ s. as_told s.newest) w.self-is
      | else-self-lt-SHORT w ↦ ap (λ s. as_told s.newest) w.self-is
    ] in
    let same : c.if-self-eq0.self.lines ≡ c.if-self-lt-SHORT.self.lines =
    elim c.if-self-eq0.branch [ then-self-eq0 w ↦ ap (λ s. s.lines) w.self-is | else-self-eq0 w ↦ ap (λ s. s.lines) w.self-is ] in
    let oldest : string_bytes c.if-self-eq0.self.oldest ≡ t.line =
    elim c.if-self-eq0.branch [
      | then-self-eq0 w ↦ ap (λ s. string_bytes s.oldest) w.self-is ∙ anew
      | else-self-eq0 w ↦ ap (λ s. string_bytes s.oldest) w.self-is ∙ anew
    ] in
    record {
      count = one ∙ count_more links t c.args.self.now.count is.count;
      lines = ap string_bytes same ∙ elim c.if-self-lt-SHORT.branch [
        | then-self-lt-SHORT+in_ok-append w ↦
            ap (λ s. string_bytes s.lines) w.self-is ∙ w.in_ok-append.ensures.bytes
            ∙ ap (λ l. string_bytes c.args.self.now.lines ++ l) w.as_str.ensures.value ∙ ap (λ b. b ++ t.line) is.lines
            ∙ sym (lines_few links t (omega (arith, w.if-self-lt-SHORT.true, is.count)))
        | else-self-lt-SHORT w ↦
            ap (λ s. string_bytes s.lines) w.self-is ∙ is.lines
            ∙ sym (lines_many links t (omega (arith, w.if-self-lt-SHORT.false, is.count)))
      ];
      newest = elim c.if-self-eq0.branch [
        | then-self-eq0 w ↦ subst (λ n. IsNewest n all) (sym (ap (λ s. as_told s.newest) w.self-is))
            (newest_first links t (omega (arith, counted, w.if-self-eq0.true)))
        | else-self-eq0 w ↦ subst (λ n. IsNewest n all) (sym (ap (λ s. as_told s.newest) w.self-is ∙ kept))
            (newest_more (as_told c.args.self.now.newest) links t (omega (arith, counted, w.if-self-eq0.false)) is.newest)
      ];
      oldest = oldest_more links t (string_bytes c.if-self-eq0.self.oldest) oldest;
    }
