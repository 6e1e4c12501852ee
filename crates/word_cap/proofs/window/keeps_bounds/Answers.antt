use Rattle.std.proofs.Common.{refl, arith}
use Rattle.word_cap.proofs.SameWindow.{keeps_bounds-inside, keeps_bounds-near, keeps_bounds-windows}
use Rattle.word_cap.proofs.window.keeps_bounds.Goals as goal

pub returns-then-address-lt2048 : goal.returns-then-address-lt2048
returns-then-address-lt2048 c =
    let kept =
    keeps_bounds-near c.args.word c.address.result c.args.address c.ranges.address.fits c.address.ensures c.if-address-lt2048.true in
    (λ _. kept, λ _. refl)

pub returns : goal.returns
returns c =
    keeps_bounds-windows c.args.word c.args.address c.window.result c.window-2.result c.mantissas_of-mantissas.result.exponent
    c.mantissas_of-mantissas.result.base c.address-3.result
    c.ranges.address.fits c.mantissas_of-mantissas.ensures.exponent c.mantissas_of-mantissas.ensures.base c.address-3.ensures
    c.window.ensures.base c.window-2.ensures.base

pub returns-then-past-e : goal.returns-then-past-e
returns-then-past-e c =
    let found = c.mantissas_of-mantissas.ensures in
    let kept =
    keeps_bounds-inside c.args.word c.address-2.result c.args.address c.base_at.result c.mantissas_of-mantissas.result.exponent
    c.mantissas_of-mantissas.result.base c.ranges.address.fits c.address-2.ensures found.exponent found.base c.base_at.ensures
    (omega (arith, c.if-past-e.true, found.length_range)) in
    (λ _. kept, λ _. refl)
