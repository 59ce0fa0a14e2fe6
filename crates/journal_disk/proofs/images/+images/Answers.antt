use Rattle.std.proofs.Common.{◌≡◌, ◌∷◌, ◌∙◌, ap, sym, rules, tests, List, ℕ}
use Rattle.std.specs.Prelude.{Some, slice_get}
use Rattle.journal_disk.specs.Memory.{stored}
use Rattle.journal_disk.specs.declared.call.Call.{Call}
use Rattle.journal_disk.specs.declared.call.Call.TheVariants.{Write, Cut}
use Rattle.journal_disk.proofs.Fronts.{torn-contents, torn-lengths, cut-contents, cut-lengths}
use Rattle.journal_disk.proofs.Listing.{torn-images, cut-images}
use Rattle.journal_disk.proofs.images.+images.Goals as goal

pub returns-in_ok-after-in-Write : goal.returns-in_ok-after-in-Write
returns-in_ok-after-in-Write t c =
    let made : c.args.calls.now ≡ Write c.in-Write.at c.in-Write.bytes c.in-Write.ok ∷ c.in-Some.older.now = search (rules, tests) in
    let calls = made ∙ ap (λ (bytes : List ℕ). Write c.in-Write.at bytes c.in-Write.ok ∷ c.in-Some.older.now) (sym c.as_slice.ensures) in
    let before = c.in_ok-before-in-Write.ensures in
    let after = c.in_ok-after-in-Write.ensures in
    record {
      all = torn-images c.args.first.now c.args.calls.now c.in-Some.older.now _ _ c.in-Write.ok c.in_ok-before-in-Write.before.items _ c.in_ok-after-in-Write.after.items calls c.deref.ensures.value before.all after.all;
      first = after.first ∙ (ap (λ (xs : List (List ℕ)). slice_get xs 0) c.deref.ensures.value ∙ (before.first ∙ ap (λ (cs : List Call). Some (stored c.args.first.now cs)) (sym calls)));
      contents = rw (calls) (torn-contents c.args.first.now c.in-Some.older.now c.in-Write.at _ c.in-Write.ok _ c.in_ok-after-in-Write.after.items (rw (← c.deref.ensures.value) at before.contents) after.same after.fronts);
      lengths = rw (calls) (torn-lengths c.args.first.now c.in-Some.older.now c.in-Write.at _ c.in-Write.ok _ c.in_ok-after-in-Write.after.items (rw (← c.deref.ensures.value) at before.lengths) after.fronts);
    }

pub returns-in_ok-after-in-Cut : goal.returns-in_ok-after-in-Cut
returns-in_ok-after-in-Cut t c =
    let calls : c.args.calls.now ≡ Cut c.in-Cut.len c.in-Cut.ok ∷ c.in-Some.older.now = search (rules, tests) in
    let before = c.in_ok-before-in-Cut.ensures in
    let after = c.in_ok-after-in-Cut.ensures in
    record {
      all = cut-images c.args.first.now c.args.calls.now c.in-Some.older.now _ c.in-Cut.ok c.in_ok-before-in-Cut.before.items _ c.in_ok-after-in-Cut.after.items calls c.deref-in-Cut.ensures.value before.all after.all;
      first = after.first ∙ (ap (λ (xs : List (List ℕ)). slice_get xs 0) c.deref-in-Cut.ensures.value ∙ (before.first ∙ ap (λ (cs : List Call). Some (stored c.args.first.now cs)) (sym calls)));
      contents = rw (calls) (cut-contents c.args.first.now c.in-Some.older.now c.in-Cut.len c.in-Cut.ok _ c.in_ok-after-in-Cut.after.items (rw (← c.deref-in-Cut.ensures.value) at before.contents) after.fronts);
      lengths = rw (calls) (cut-lengths c.args.first.now c.in-Some.older.now c.in-Cut.len c.in-Cut.ok _ c.in_ok-after-in-Cut.after.items (rw (← c.deref-in-Cut.ensures.value) at before.lengths) after.fronts);
    }
