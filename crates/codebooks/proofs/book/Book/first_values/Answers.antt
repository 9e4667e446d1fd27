use Rattle.std.proofs.Common.{◌≡◌, ◌<◌, ◌≤◌, length, take, ap, sym, ◌∙◌, arith}
use Rattle.model_setup.specs.Codebook.{Codebook}
use Rattle.codebooks.specs.Tables.{IsWholeTable}
use Rattle.codebooks.proofs.Fills.{has_room}
use Rattle.codebooks.proofs.Layouts.{first_laid, room_laid, some_lookup, not_empty}
use Rattle.codebooks.proofs.SmallVectors.{vector_small}
use Rattle.codebooks.specs.Layouts.{AreVectors}
use Rattle.model_setup.specs.Vectors.{vector_of}
use Rattle.codebooks.proofs.book.Book.first_values.Goals as goal

pub fill-requires-clause-room : goal.fill-requires-clause-room
fill-requires-clause-room c =
    let s = c.self.inside in
    let whole : IsWholeTable s.dimensions (length s.lengths.items) c.in-Some.table = rw c.in-Some.is at c.self.invariant.whole in
    let same : length c.args.self.now.lengths ≡ length s.lengths.items = sym (ap (λ (b : Codebook). length b.lengths) c.self.view_is) in
    let below : c.in_ok-entry.entry < length s.lengths.items = rw same at c.in_ok-entry.ensures.below in
    rw c.from-dimensions.ensures (has_room c.in-Some.table s.dimensions (length s.lengths.items) c.in_ok-entry.entry whole below)

pub copy_from-requires : goal.copy_from-requires
copy_from-requires c =
    let s = c.self.inside in
    let entries = length s.lengths.items in
    let some = some_lookup s.table (rw (sym (ap (λ (b : Codebook). b.lookup) c.self.view_is)) at c.requires.lookup) in
    let n : 0 < length c.deref.result.now = rw c.deref.ensures.len (not_empty _ c.if-not-is_empty.ensures) in
    let m : 0 < length s.vectors.items = rw (← c.deref.ensures.value) n in
    let laid : AreVectors s.dimensions entries some.0 s.vectors.items = c.self.invariant.laid m some.0 some.1 in
    let same : length c.args.self.now.lengths ≡ entries = sym (ap (λ (b : Codebook). length b.lengths) c.self.view_is) in
    let below : c.in_ok-entry.entry < entries = rw same at c.in_ok-entry.ensures.below in
    let few : length c.args.out.now ≤ s.dimensions = rw (sym (ap (λ (b : Codebook). b.dimensions) c.self.view_is)) at c.requires.room in
    let room = room_laid s.dimensions entries c.in_ok-entry.entry some.0 s.vectors.items laid below in
    rw (c.from-dimensions.ensures, c.deref.ensures.value) (omega arith)

pub returns-then-not-is_empty-clause-small : goal.returns-then-not-is_empty-clause-small
returns-then-not-is_empty-clause-small c =
    let s = c.self.inside in
    let entries = length s.lengths.items in
    let count = length c.args.out.now in
    let some = some_lookup s.table (rw (sym (ap (λ (b : Codebook). b.lookup) c.self.view_is)) at c.requires.lookup) in
    let n : 0 < length c.deref.result.now = rw c.deref.ensures.len (not_empty _ c.if-not-is_empty.ensures) in
    let m : 0 < length s.vectors.items = rw (← c.deref.ensures.value) n in
    let laid : AreVectors s.dimensions entries some.0 s.vectors.items = c.self.invariant.laid m some.0 some.1 in
    let same : length c.args.self.now.lengths ≡ entries = sym (ap (λ (b : Codebook). length b.lengths) c.self.view_is) in
    let below : c.in_ok-entry.entry < entries = rw same at c.in_ok-entry.ensures.below in
    let few : count ≤ s.dimensions = rw (sym (ap (λ (b : Codebook). b.dimensions) c.self.view_is)) at c.requires.room in
    let is : c.copy_from.new.out ≡ take count (vector_of s.dimensions some.0 c.in_ok-entry.entry) = rw (c.from-dimensions.ensures, c.deref.ensures.value) at c.copy_from.ensures ∙ first_laid s.dimensions entries c.in_ok-entry.entry count some.0 s.vectors.items laid below few in
    rw is (vector_small s.dimensions some.0 c.in_ok-entry.entry count few)
