use Rattle.std.proofs.Common.{◌≡◌, ◌+◌, ◌-◌, ◌<◌, ◌≤◌, ◌++◌, length, drop, ap, sym, subst, ◌∙◌, append-nil, length-drop, arith}
use Rattle.std.proofs.KnownBytes.{Appends-trans}
use Rattle.std.proofs.lemmas.Result.{err_from_is_err_and}
use Rattle.std.specs.Option.{option_copied}
use Rattle.std.specs.Io.KnownBytes.{Appends}
use Rattle.byteorder.specs.Endian.{little_number}
use Rattle.image_listing.specs.Listing.{byte_lines, lines_from, lines_of_bytes, section_lines, word_lines}
use Rattle.image_listing.proofs.Listed.{all_listed, left_over, line_began, line_less, one_byte, one_word, to_the_end}
use Rattle.image_listing.proofs.listing.list_section.Goals as goal

pub returns-in_err-write_line-clause-err : goal.returns-in_err-write_line-clause-err
returns-in_err-write_line-clause-err g c =
    let p = err_from_is_err_and c.from_residual.result c.from_residual.ensures.1 in
    let kept = c.loop-rest.invariant in
    let table = option_copied c.args.table in
    let mode = c.args.mode in
    let a = c.loop-rest.address in
    let rest = c.loop-rest.rest.now in
    let cut = one_word table mode a rest c.loop-rest-test.true in
    let line = rw (c.as_str.ensures.value, c.named_line-line.ensures, c.read_u32.ensures) at c.in_err-write_line.ensures.err in
    rw p.1 (line_began _ _ _ kept.0 (word_lines table mode a (little_number 4 rest)) (lines_from table mode a rest)
    (lines_from table mode (a + 4) (drop 4 rest)) (section_lines table mode c.args.section.now) cut kept.2 kept.1 line)

pub loop-rest-preserved : goal.loop-rest-preserved
loop-rest-preserved g c =
    let kept = c.loop-rest.invariant in
    let table = option_copied c.args.table in
    let mode = c.args.mode in
    let a = c.loop-rest.address in
    let rest = c.loop-rest.rest.now in
    let long : 4 ≤ length rest = c.loop-rest-test.true in
    let word = word_lines table mode a (little_number 4 rest) in
    let line = rw (c.as_str.ensures.value, c.named_line-line.ensures, c.read_u32.ensures) at c.in_ok-write_line.ensures.ok in
    let shorter : length (drop 4 rest) ≡ length rest - 4 = length-drop 4 rest in
    rw (to_the_end 4 rest) (
      kept.0 ++ word,
      Appends-trans _ _ _ kept.0 word kept.1 line,
      line_less kept.0 word (lines_from table mode a rest) (lines_from table mode (a + 4) (drop 4 rest))
          (section_lines table mode c.args.section.now) (one_word table mode a rest long) kept.2,
      c.in_ok-write_line.ensures.count ∙ kept.3,
      omega (arith, shorter, long, kept.4),
    )

pub loop-byte-init : goal.loop-byte-init
loop-byte-init g c =
    let kept = c.loop-rest.invariant in
    let few : length c.loop-rest.rest.now < 4 = omega (arith, c.loop-rest-test.false) in
    let left = left_over (option_copied c.args.table) c.args.mode c.loop-rest.address c.loop-rest.rest.now few in
    (kept.0, kept.1, ap (λ ls. kept.0 ++ ls) (sym left) ∙ kept.2, kept.3, kept.4)

pub returns-in_err-write_line-2-clause-err : goal.returns-in_err-write_line-2-clause-err
returns-in_err-write_line-2-clause-err g c =
    let p = err_from_is_err_and c.from_residual-in_err-write_line-2.result c.from_residual-in_err-write_line-2.ensures.1 in
    let kept = c.loop-byte.invariant in
    let table = option_copied c.args.table in
    let a = c.loop-byte.address in
    let byte = c.in-Some.byte.now in
    let rest = c.loop-byte.rest.now in
    let after = c.in-Some.after.now in
    let cut = one_byte table a byte rest after c.in-Some.ensures.cases.0 in
    let line = rw (c.as_str-in-Some.ensures.value, c.byte_line.ensures) at c.in_err-write_line-2.ensures.err in
    rw p.1 (line_began _ _ _ kept.0 (byte_lines table a byte) (lines_of_bytes table a rest) (lines_of_bytes table (a + 1) after)
    (section_lines table c.args.mode c.args.section.now) cut kept.2 kept.1 line)

pub loop-byte-preserved : goal.loop-byte-preserved
loop-byte-preserved g c =
    let kept = c.loop-byte.invariant in
    let table = option_copied c.args.table in
    let a = c.loop-byte.address in
    let byte = c.in-Some.byte.now in
    let rest = c.loop-byte.rest.now in
    let after = c.in-Some.after.now in
    let cut = one_byte table a byte rest after c.in-Some.ensures.cases.0 in
    let line = rw (c.as_str-in-Some.ensures.value, c.byte_line.ensures) at c.in_ok-write_line-2.ensures.ok in (
      kept.0 ++ byte_lines table a byte,
      Appends-trans _ _ _ kept.0 (byte_lines table a byte) kept.1 line,
      line_less kept.0 (byte_lines table a byte) (lines_of_bytes table a rest) (lines_of_bytes table (a + 1) after)
          (section_lines table c.args.mode c.args.section.now) cut kept.2,
      c.in_ok-write_line-2.ensures.count ∙ kept.3,
      omega (arith, c.in-Some.ensures.cases.1, kept.4),
    )

pub returns-clause-ok : goal.returns-clause-ok
returns-clause-ok g c =
    let kept = c.loop-byte.invariant in
    let none = all_listed (option_copied c.args.table) c.loop-byte.address c.loop-byte.rest.now c.in_default.ensures.cases in
    subst (Appends _ _) (sym (append-nil kept.0) ∙ ap (λ ls. kept.0 ++ ls) (sym none) ∙ kept.2) kept.1
