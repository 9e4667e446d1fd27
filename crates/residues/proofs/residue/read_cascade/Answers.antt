use Rattle.std.proofs.Common.{◌≡◌, ℕ, ◌+◌, ◌<◌, ◌≢◌, List, Option, length, take, get_or, None, IfSome, sym, subst, ◌∙◌, arith}
use Rattle.std.proofs.lemmas.List.{take_more_set, get_or-set_same, get_or-set_other, get_or_default, take_all}
use Rattle.std.proofs.Math.ListN.{set, length-set}
use borrow.Author.Count.{below_more}
use Rattle.std.proofs.lemmas.Result.{err_from_is_err_and}
use Rattle.model_bits.proofs.Each.{each_number_goes_on, each_number_fails, each_number_ends}
use Rattle.model_setup.specs.ResidueSetup.{Serves, has_values}
use Rattle.model_setup.specs.ResidueReading.{pass_book_at, cascade_at}
use Rattle.residues.proofs.residue.read_cascade.Goals as goal

pub returns-in_err-cascade-clause-read : goal.returns-in_err-cascade-clause-read
unfolding cascade_at
returns-in_err-cascade-clause-read c =
    let p = err_from_is_err_and c.from_residual.result c.from_residual.ensures.1 in
    let m = pass_book_at c.args.books.now c.args.flags in
    rw (p.1, p.2) (λ other. each_number_fails m (take c.loop-pass.pass c.loop-pass.cascade) 8 c.loop-pass.pass c.loop-pass.bits.left _ c.loop-pass.invariant.read _ c.loop-pass-test.true (c.in_err-cascade.ensures.read other))

kept : (P : ℕ → Type 0) (xs : List (Option ℕ)) (i : ℕ) (v : Option ℕ) → i < length xs → ((k : ℕ) → k < i → IfSome (get_or xs k None) P) → IfSome v P
    → (k : ℕ) → k < i + 1 → IfSome (get_or (set xs i v) k None) P
kept P xs i v lt below here = below_more _ i
    (λ k h. let ne : k ≢ i = omega arith in subst (λ (o : Option ℕ). IfSome o P) (sym (get_or-set_other xs i k v None ne)) (below k h))
    (subst (λ (o : Option ℕ). IfSome o P) (sym (get_or-set_same xs i v None lt)) here)

pub loop-pass-preserved : goal.loop-pass-preserved
loop-pass-preserved c =
    let m = pass_book_at c.args.books.now c.args.flags in
    let i = c.loop-pass.pass in
    let lt : i < length c.loop-pass.cascade = omega (arith, c.loop-pass.invariant.count) in
    record {
      read = rw (take_more_set c.loop-pass.cascade i c.in_ok-cascade.field-0 lt) (each_number_goes_on m (take i c.loop-pass.cascade) 8 i c.loop-pass.bits.left _ c.loop-pass.invariant.read c.in_ok-cascade.field-0 c.read_pass_book.new.bits.left c.loop-pass-test.true c.in_ok-cascade.ensures.read);
      bytes = c.in_ok-cascade.ensures.bytes ∙ c.loop-pass.invariant.bytes;
      count = length-set c.loop-pass.cascade i c.in_ok-cascade.field-0 ∙ c.loop-pass.invariant.count;
      serves = kept (Serves has_values c.args.books.now) c.loop-pass.cascade i c.in_ok-cascade.field-0 lt c.loop-pass.invariant.serves c.in_ok-cascade.ensures.serves;
    }

pub returns-clause-read : goal.returns-clause-read
unfolding cascade_at
returns-clause-read c =
    let m = pass_book_at c.args.books.now c.args.flags in
    let all : take c.loop-pass.pass c.loop-pass.cascade ≡ c.loop-pass.cascade = take_all c.loop-pass.pass c.loop-pass.cascade (omega (arith, c.loop-pass.invariant.count)) in
    rw all at (each_number_ends m (take c.loop-pass.pass c.loop-pass.cascade) 8 c.loop-pass.pass c.loop-pass.bits.left _ c.loop-pass.invariant.read (omega arith))

pub returns-clause-serves : goal.returns-clause-serves
returns-clause-serves c = λ k d lt.
    subst (λ (o : Option ℕ). IfSome o (Serves has_values c.args.books.now)) (get_or_default c.loop-pass.cascade k None d lt) (c.loop-pass.invariant.serves k (omega (arith, c.loop-pass.invariant.count)))
