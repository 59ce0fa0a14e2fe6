use Rattle.std.proofs.Common.{ℕ, List, ◌∷◌, length, refl, subst}
use Rattle.act_bytes.specs.Spelling.{fill_bytes, fills_bytes}
use Rattle.act_bytes.specs.Puts.{Puts}
use Rattle.act_bytes.specs.declared.writing.TheConstants.{MAX_ACT}
use Rattle.act_bytes.proofs.Putting.{room-left, then-puts, one-more}
use Rattle.act_bytes.proofs.pieces.put_fills.Goals as goal

pub put_fill-end-requires : goal.put_fill-end-requires
unfolding fills_bytes
put_fill-end-requires c = room-left fill_bytes 12 MAX_ACT (λ f. refl) c.args.fills.now c.loop-maker.maker-index c.args.at c.loop-maker.end c.loop-maker-test.true c.requires.room c.loop-maker.invariant.place

pub loop-maker-preserved : goal.loop-maker-preserved
loop-maker-preserved c =
    let next = then-puts c.loop-maker.invariant c.put_fill-end.ensures in
    let bytes = one-more fill_bytes c.args.fills.now c.loop-maker.maker-index c.maker-item.result c.loop-maker-test.true c.maker-item.is in
    subst (λ (items : List ℕ). Puts c.args.into.now c.args.at (length c.args.fills.now ∷ items) c.put_fill-end.new.into c.put_fill-end.result) bytes next
