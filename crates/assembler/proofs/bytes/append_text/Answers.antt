use Rattle.std.proofs.Common.{◌∙◌, ◌++◌, sym, ap}
use Rattle.std.proofs.lemmas.List.{append-nil, drop_all}
use Rattle.asm_lines.specs.Statement.{text_bytes_from}
use Rattle.assembler.proofs.bytes.append_text.Goals as goal

pub returns : goal.returns
returns c =
    let at = c.loop-byte in
    sym (append-nil at.bytes.items)
    ∙ ap (λ r. at.bytes.items ++ text_bytes_from at.is_escaped r) (sym (drop_all at.byte-index c.args.between.now c.loop-byte-test.false))
    ∙ at.invariant
