use Rattle.std.proofs.Common.{[], ◌∷◌, ◌++◌, refl, subst, rules}
use Rattle.std.proofs.KnownBytes.{Appends-nil, Appends-trans}
use Rattle.std.proofs.lemmas.Result.{err_from_is_err_and}
use Rattle.std.specs.List.{flat_map}
use Rattle.std.specs.Io.KnownBytes.{Appends}
use Rattle.image.specs.Devices.{AppendsBeginning}
use Rattle.image.specs.BeginningLaws.{beginning_more, beginning_after}
use Rattle.symbols.specs.Symbols.{names_at}
use Rattle.image_listing.specs.Named.{label_line, label_lines}
use Rattle.image_listing.proofs.Labels.{next_label, past_next, cut_at_next, all_done}
use Rattle.image_listing.proofs.listing.write_labels.Goals as goal

pub loop-name-init : goal.loop-name-init
loop-name-init g c = ([], c.names_at-names.ensures, Appends-nil _, refl)

pub loop-name-preserved : goal.loop-name-preserved
loop-name-preserved g c =
    let before = c.loop-name.invariant in
    let name = c.in-Some.name.now in
    let all = names_at c.args.symbols.now c.args.address in (
      before.0 ++ (name ∷ []),
      past_next before.0 c.loop-name.names c.next.new.self all name c.in-Some.ensures.some before.1,
      subst (Appends _ _) (next_label before.0 name)
          (Appends-trans _ _ _ (flat_map label_line before.0) (label_line name) before.2 c.in_ok-write_label.ensures.ok),
      search rules,
    )

pub returns-in_err-write_label-clause-err : goal.returns-in_err-write_label-clause-err
unfolding label_lines
returns-in_err-write_label-clause-err g c =
    let p = err_from_is_err_and c.from_residual.result c.from_residual.ensures.1 in
    let before = c.loop-name.invariant in
    let name = c.in-Some.name.now in
    let rest = c.next.new.self in
    let all = names_at c.args.symbols.now c.args.address in
    let whole = cut_at_next before.0 c.loop-name.names rest all name c.in-Some.ensures.some before.1 in
    let here = beginning_after _ _ _ (flat_map label_line before.0) (label_line name) before.2 c.in_err-write_label.ensures.err in
    rw p.1 (subst (AppendsBeginning _ _) whole
    (beginning_more _ _ (flat_map label_line before.0 ++ label_line name) (flat_map label_line rest) here))

pub returns-clause-ok : goal.returns-clause-ok
unfolding label_lines
returns-clause-ok g c =
    let before = c.loop-name.invariant in
    let all = all_done before.0 c.loop-name.names (names_at c.args.symbols.now c.args.address) c.in_default.ensures.none before.1 in
    subst (λ names. Appends (g.W.Sink.held c.args.sink.now) (g.W.Sink.held c.loop-name.sink) (flat_map label_line names)) all before.2
