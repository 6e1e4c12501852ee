use Rattle.std.proofs.Common.{◌≡◌, ◌∙◌, ◌+◌, ◌++◌, sym, ap, rules, append_assoc, drop}
use Rattle.symbols.specs.Reads.{seen_entries}
use Rattle.symbols.specs.Symbols.{symbol, symbol_line, table_text}
use Rattle.symbols.proofs.TableLemmas.{next_entry}
use Rattle.symbols.proofs.lines.table_text.Goals as goal

pub loop-name-preserved : goal.loop-name-preserved
loop-name-preserved c =
    let entries = c.args.symbols.now.entries in
    let i = c.loop-name.index in
    let text = c.loop-name.text.items in
    let rest = table_text (seen_entries (drop (i + 1) entries)) in
    let line = symbol_line (symbol c.in-Some.value.now c.in-Some.name.now.items) in
    let next : table_text (seen_entries (drop i entries)) ≡ line ++ rest =
    next_entry entries i (c.in-Some.name.now, c.in-Some.value.now) (search rules) in
    let pushed : c.append_line.new.text.items ≡ text ++ line = search rules in
    ap (λ t. t ++ rest) pushed ∙ append_assoc text line rest ∙ ap (λ t. text ++ t) (sym next) ∙ c.loop-name.invariant
