use Rattle.std.proofs.Common.{◌≡◌, ◌+◌, ◌&&◌, false, leb, ap, subst, ◌∙◌}
use Rattle.cap_bounds.specs.Window.{top_of_word}
use Rattle.word_cap.proofs.Holds.{holds-below, holds-longer, holds-rest, base-decoded, top-decoded}
use Rattle.word_cap.proofs.decoding.bounds_hold.Goals as goal

pub returns-then-address-base : goal.returns-then-address-base
returns-then-address-base c =
    let m = c.mantissas_of-mantissas.result in
    let found = c.mantissas_of-mantissas.ensures in
    let same =
    base-decoded c.args.word c.address.result m.exponent m.base m.length c.base_at-base.result found.exponent found.base found.length
    c.address.ensures c.base_at-base.ensures in
    subst (λ base. false ≡ (leb base c.args.address && leb (c.args.address + c.args.size) (top_of_word c.args.word))) same
    (holds-below c.base_at-base.result c.args.address (c.args.address + c.args.size) (top_of_word c.args.word) c.if-address-base.true)

pub returns-then-length-size : goal.returns-then-length-size
returns-then-length-size c =
    let m = c.mantissas_of-mantissas.result in
    let found = c.mantissas_of-mantissas.ensures in
    let same =
    base-decoded c.args.word c.address.result m.exponent m.base m.length c.base_at-base.result found.exponent found.base found.length
    c.address.ensures c.base_at-base.ensures in
    let top =
    top-decoded c.args.word c.address.result m.exponent m.base m.length c.base_at-base.result found.exponent found.base found.length
    c.address.ensures c.base_at-base.ensures c.if-mantissas-gt50.false found.length_range in
    subst (λ base. false ≡ (leb base c.args.address && leb (c.args.address + c.args.size) (top_of_word c.args.word))) same
    (holds-longer c.base_at-base.result c.args.address c.args.size _ (top_of_word c.args.word) top c.if-address-base.false
    c.if-length-size.true)

pub returns : goal.returns
returns c =
    let m = c.mantissas_of-mantissas.result in
    let found = c.mantissas_of-mantissas.ensures in
    let same =
    base-decoded c.args.word c.address.result m.exponent m.base m.length c.base_at-base.result found.exponent found.base found.length
    c.address.ensures c.base_at-base.ensures in
    let top =
    top-decoded c.args.word c.address.result m.exponent m.base m.length c.base_at-base.result found.exponent found.base found.length
    c.address.ensures c.base_at-base.ensures c.if-mantissas-gt50.false found.length_range in
    holds-rest c.base_at-base.result c.args.address c.args.size _ (top_of_word c.args.word) top c.if-address-base.false
    c.if-length-size.false
    ∙ ap (λ base. leb base c.args.address && leb (c.args.address + c.args.size) (top_of_word c.args.word)) same
