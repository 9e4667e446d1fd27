-- Codebooks.
use Rattle.std.proofs.Common.{◌≡◌, ℕ, zero, suc, ◌+◌, ◌-◌, ◌^◌, ◌<◌, ◌≤◌, List, [], ◌∷◌, ◌++◌, length, replicate, flat_map, Option, Some, None, refl, sym, ap, subst, ◌∙◌, ◌==◌, nat_lt, nat_le, Bool, true, false, arith, eqb-true, if◌then◌else◌}
use Rattle.std.specs.Prelude.{is_some, is_none}
use Rattle.std.specs.List.{All, AllByRecursion, list_any}
use Rattle.std.proofs.lemmas.Bool.{leb-true, true≢false}
use Rattle.std.proofs.lemmas.List.{append-nil, length-replicate, length-append}
use Rattle.std.proofs.Math.Pow.{pow_mono}
use Rattle.model_bits.specs.Reading.{Reading, ◌>>=◌, ◌>>◌, give, require, times}
use Rattle.model_bits.specs.Writing.{WrittenField, HasPlace, WasRead, Rewrites, in_bits, flag, count_in_bits}
use Rattle.model_bits.proofs.WasRead.{number_read, in_turn}
use Rattle.model_setup.specs.declared.book.BookFault.{BookFault}
use Rattle.model_setup.specs.declared.book.BookFault.TheVariants as causes
use Rattle.model_setup.specs.declared.book.Budget.{Budget}
use Rattle.model_setup.specs.declared.book.LookupKind.{LookupKind}
use Rattle.model_setup.specs.declared.book.LookupKind.TheVariants.{Lattice, Tessellation}
use Rattle.model_setup.specs.Codebook.{Codebook, Lookup}
use Rattle.model_setup.specs.Codewords.{book_words}
use Rattle.model_setup.specs.Vectors.{multiplicand_count}
use Rattle.model_setup.specs.BookReading.{field, ilog, front_at, length_at, entry_length_at, runs_at, ordered_lengths_at, unordered_lengths_at, length_list_at, lengths_at, table_at, lookup_of_type, lookup_at, book_at}
use Rattle.model_writing.specs.SetupWriting.{entry_fields, is_sparse, length_fields, lookup_type, lookup_fields, book_fields}
use Rattle.model_writing.proofs.Kept.{Kept, kept_back, kept_fits, Known, AreRead, Gives, kept, bind, last, ends, done, tested, chosen, refused, number, are_number, are_given, are_in_turn, are_map, are_tested, are_in_row, gives_bind, gives_tested, gives_done, gives_refused, gives_chosen, gives_number, gives_row}
use Rattle.model_writing.proofs.Numbers.{flag_is}

abbrev front_fields : ℕ × ℕ → List WrittenField
front_fields front = in_bits 24 0x564342 ++ (in_bits 16 front.0 ++ in_bits 24 front.1)

front_kept : (most : ℕ) → Kept (front_at most) front_fields (λ front. Unit {0})
unfolding front_at
front_kept most =
    kept (bind (number causes.End 24) (λ sync s. tested (sync == 0x564342) causes.Sync (λ is.
    bind (number causes.End 16) (λ dimensions d. bind (number causes.End 24) (λ entries e. tested (nat_le entries most) causes.Limit (λ few.
    done (ap (λ n. in_bits 24 n ++ (in_bits 16 dimensions ++ in_bits 24 entries)) (eqb-true sync 0x564342 is), tt)))))))

-- ---- lengths

-- lengths that may be read: 1 to 32
abbrev IsLength : Option ℕ → Type 0
IsLength None = Unit {0}
IsLength (Some len) = (0 < len) × (len < 33)

abbrev AreLengths : ℕ → List (Option ℕ) → Type 0
AreLengths entries lengths = (length lengths ≡ entries) × AllByRecursion IsLength lengths

length_gives : Gives length_at IsLength
unfolding length_at
length_gives = gives_bind (gives_number causes.End 5) (λ n small. gives_done (omega arith, omega arith))

entry_gives : (sparse : ℕ) → Gives (entry_length_at sparse) IsLength
unfolding entry_length_at
entry_gives zero = length_gives
entry_gives (suc sparse) = gives_bind (gives_number causes.End 1) (λ used small. gives_chosen (used == 1) (λ yes. length_gives) (λ no. gives_done tt))

run_is : (run len : ℕ) (others : List (Option ℕ)) → IsLength (Some len) → AllByRecursion IsLength others → AllByRecursion IsLength (replicate run (Some len) ++ others)
run_is zero len others is all = all
run_is (suc run) len others is all = (is, run_is run len others is all)

runs_give : (more len remain : ℕ) → 0 < len → more + len ≡ 33 → Gives (runs_at more len remain) (AreLengths remain)
unfolding runs_at
runs_give zero len zero some total = gives_done (refl, tt)
runs_give (suc more) len zero some total = gives_done (refl, tt)
runs_give zero len (suc remain) some total = gives_refused causes.Tree
runs_give (suc more) len (suc remain) some total =
    gives_bind (gives_number causes.End (ilog (suc remain))) (λ run small. gives_tested (nat_le run (suc remain)) causes.Tree (λ within.
    gives_bind (runs_give more (len + 1) (suc remain - run) (omega arith) (omega arith)) (λ others facts. gives_done
    (let within : run ≤ suc remain = leb-true run (suc remain) within in
    (simp (length-append, length-replicate) (omega (arith, facts.0)), run_is run len others (some, omega arith) facts.1)))))

list_gives : (entries : ℕ) → Gives (length_list_at entries) (AreLengths entries)
unfolding length_list_at ordered_lengths_at unordered_lengths_at
list_gives entries =
    gives_bind (gives_number causes.End 1) (λ ordered o. gives_chosen (ordered == 1)
    (λ yes. gives_bind (gives_number causes.End 5) (λ first small. runs_give (32 - first) (first + 1) entries (omega arith) (omega arith)))
    (λ no. gives_bind (gives_number causes.End 1) (λ sparse s. gives_row entries (entry_gives sparse))))

-- they are read again where they are written: not ordered, and sparse where an entry is unused
length_are : (len : ℕ) → IsLength (Some len) → AreRead length_at (Some len) (count_in_bits 5 len)
unfolding length_at
length_are len is =
    let e : len - 1 + 1 ≡ len = omega (arith, is.0) in
    subst (λ n. AreRead length_at (Some n) (in_bits 5 (len - 1))) e (are_map (λ n. Some (n + 1)) (are_number causes.End 5 (len - 1) (omega (arith, is.1))))

sparse_are : (len : Option ℕ) → IsLength len → AreRead (entry_length_at 1) len (entry_fields true len)
unfolding entry_length_at
sparse_are None is = are_in_turn (λ used. if used == 1 then length_at else give None) 0 (are_number causes.End 1 0 (omega arith)) (are_given None)
sparse_are (Some len) is = are_in_turn (λ used. if used == 1 then length_at else give None) 1 (are_number causes.End 1 1 (omega arith)) (length_are len is)

full_are : (len : Option ℕ) → IsLength len → is_none len ≡ false → AreRead (entry_length_at 0) len (entry_fields false len)
unfolding entry_length_at
full_are None is used = absurd (true≢false used)
full_are (Some len) is used = length_are len is

all_sparse : (lengths : List (Option ℕ)) → AllByRecursion IsLength lengths → AllByRecursion (λ len. AreRead (entry_length_at 1) len (entry_fields true len)) lengths
all_sparse [] is = tt
all_sparse (len ∷ lengths) is = (sparse_are len is.0, all_sparse lengths is.1)

all_full : (lengths : List (Option ℕ)) → AllByRecursion IsLength lengths → list_any is_none lengths ≡ false → AllByRecursion (λ len. AreRead (entry_length_at 0) len (entry_fields false len)) lengths
all_full [] is used = tt
all_full (None ∷ lengths) is used = absurd (true≢false used)
all_full (Some len ∷ lengths) is used = (full_are (Some len) is.0 refl, all_full lengths is.1 used)

entries_are : (lengths : List (Option ℕ)) (b : Bool) → is_sparse lengths ≡ b → AllByRecursion IsLength lengths
    → AreRead (unordered_lengths_at (length lengths)) lengths (flag b ++ flat_map (entry_fields b) lengths)
unfolding unordered_lengths_at
entries_are lengths true sparse is = are_in_turn (λ s. times (length lengths) (entry_length_at s)) 1 (are_number causes.End 1 1 (omega arith)) (are_in_row (entry_length_at 1) (entry_fields true) lengths (all_sparse lengths is))
entries_are lengths false full is = are_in_turn (λ s. times (length lengths) (entry_length_at s)) 0 (are_number causes.End 1 0 (omega arith)) (are_in_row (entry_length_at 0) (entry_fields false) lengths (all_full lengths is full))

list_are : (lengths : List (Option ℕ)) → AllByRecursion IsLength lengths → AreRead (length_list_at (length lengths)) lengths (length_fields lengths)
unfolding length_list_at
list_are lengths is =
    are_in_turn (λ ordered. if ordered == 1 then ordered_lengths_at (length lengths) else unordered_lengths_at (length lengths)) 0 (are_number causes.End 1 0 (omega arith))
    (entries_are lengths (is_sparse lengths) refl is)

list_kept : (entries : ℕ) → Kept (length_list_at entries) length_fields (λ lengths. length lengths ≡ entries)
list_kept entries = record {
  at = λ lengths was.
      let facts = (list_gives entries).at lengths was in
      record { are = subst (λ n. AreRead (length_list_at n) lengths (length_fields lengths)) facts.0 (list_are lengths facts.1); fact = facts.0 };
}

lengths_kept : (entries : ℕ) → Kept (lengths_at entries) length_fields (λ lengths. length lengths ≡ entries)
unfolding lengths_at
lengths_kept entries = kept (bind (list_kept entries) (λ lengths long. tested (is_some (book_words lengths)) causes.Tree (λ tree. done (append-nil (length_fields lengths), long))))

-- ---- lookups

-- what is written of a lookup behind its type
abbrev table_fields : Option Lookup → List WrittenField
table_fields None = []
table_fields (Some lookup) =
    in_bits 32 lookup.minimum ++ (in_bits 32 lookup.delta
    ++ (in_bits 4 15 ++ (flag lookup.sequence ++ flat_map (in_bits 16) lookup.multiplicands)))

abbrev number_of_type : Option Lookup → ℕ
number_of_type None = 0
number_of_type (Some lookup) = lookup_type lookup.kind

lookup_is : (lookup : Option Lookup) → in_bits 4 (number_of_type lookup) ++ table_fields lookup ≡ lookup_fields lookup
lookup_is None = refl
lookup_is (Some lookup) = refl

-- what is read of it behind the width of its multiplicands
abbrev values_at : LookupKind → ℕ → ℕ → ℕ → ℕ → ℕ → Reading BookFault (Option Lookup)
values_at kind count most minimum delta value_bits = do
  sequence ← field 1
  require (nat_le count most) causes.Limit
  multiplicands ← times count (field (value_bits + 1))
  give (Some (record { kind = kind; minimum = minimum; delta = delta; sequence = sequence == 1; multiplicands = multiplicands }))

-- what is known of it: its multiplicands have 16 bits at most
record IsTable (kind : LookupKind) (count most minimum delta : ℕ) (lookup : Option Lookup) : Type 0 where
  sequence : ℕ
  small : sequence < 2
  within : nat_le count most ≡ true
  multiplicands : List ℕ
  long : length multiplicands ≡ count
  few : AllByRecursion (λ n. n < 2 ^ 16) multiplicands
  is : Some (record { kind = kind; minimum = minimum; delta = delta; sequence = sequence == 1; multiplicands = multiplicands }) ≡ lookup

wider : (width : ℕ) (numbers : List ℕ) → width ≤ 16 → AllByRecursion (λ n. n < 2 ^ width) numbers → AllByRecursion (λ n. n < 2 ^ 16) numbers
wider width [] few small = tt
wider width (n ∷ numbers) few small = let p : 2 ^ width ≤ 2 ^ 16 = pow_mono few in (omega (arith, small.0), wider width numbers few small.1)

numbers_are : (numbers : List ℕ) → AllByRecursion (λ n. n < 2 ^ 16) numbers → AllByRecursion (λ n. AreRead (field 16) n (in_bits 16 n)) numbers
numbers_are [] small = tt
numbers_are (n ∷ numbers) small = (are_number causes.End 16 n small.0, numbers_are numbers small.1)

module _ (kind : LookupKind) (count most minimum delta : ℕ) where
  values_give : (value_bits : ℕ) → value_bits < 2 ^ 4 → Gives (values_at kind count most minimum delta value_bits) (IsTable kind count most minimum delta)
  values_give value_bits few =
      gives_bind (gives_number causes.End 1) (λ sequence small. gives_tested (nat_le count most) causes.Limit (λ within.
      gives_bind (gives_row count (gives_number causes.End (value_bits + 1))) (λ multiplicands facts. gives_done (record {
        sequence = sequence;
        small = small;
        within = within;
        multiplicands = multiplicands;
        long = facts.0;
        few = wider (value_bits + 1) multiplicands (omega arith) facts.1;
        is = refl;
      }))))

  abbrev values_fields : Option Lookup → List WrittenField
  values_fields None = []
  values_fields (Some lookup) = in_bits 4 15 ++ (flag lookup.sequence ++ flat_map (in_bits 16) lookup.multiplicands)

  abbrev IsWhole : Option Lookup → Type 0
  IsWhole lookup = (in_bits 32 minimum ++ (in_bits 32 delta ++ values_fields lookup) ≡ table_fields lookup) × (number_of_type lookup ≡ lookup_type kind)

  table_known : (lookup : Option Lookup) → IsTable kind count most minimum delta lookup
      → Known (field 4 >>= values_at kind count most minimum delta) lookup (values_fields lookup) (IsWhole lookup)
  table_known lookup table =
      let s = table.sequence in
      let ms = table.multiplicands in
      let made : Lookup = record { kind = kind; minimum = minimum; delta = delta; sequence = s == 1; multiplicands = ms } in
      let numbers : AreRead (times count (field 16)) ms (flat_map (in_bits 16) ms) = subst (λ n. AreRead (times n (field 16)) ms (flat_map (in_bits 16) ms)) table.long (are_in_row (field 16) (in_bits 16) ms (numbers_are ms table.few)) in
      let values : AreRead (values_at kind count most minimum delta 15) (Some made) (in_bits 1 s ++ flat_map (in_bits 16) ms) =
      are_in_turn (λ t. require (nat_le count most) causes.Limit >> (times count (field 16) >>= λ ns. give (Some (record { kind = kind; minimum = minimum; delta = delta; sequence = t == 1; multiplicands = ns })))) s (are_number causes.End 1 s table.small)
      (are_tested causes.Limit table.within (are_map (λ ns. Some (record { kind = kind; minimum = minimum; delta = delta; sequence = s == 1; multiplicands = ns })) numbers)) in
      let all : AreRead (field 4 >>= values_at kind count most minimum delta) (Some made) (values_fields (Some made)) =
      are_in_turn (values_at kind count most minimum delta) 15 (are_number causes.End 4 15 (omega arith)) (subst (λ fields. AreRead (values_at kind count most minimum delta 15) (Some made) (fields ++ flat_map (in_bits 16) ms)) (flag_is s table.small) values) in
      subst (λ x. Known (field 4 >>= values_at kind count most minimum delta) x (values_fields x) (IsWhole x)) table.is (record { are = all; fact = (refl, refl) })

  values_kept : Kept (field 4 >>= values_at kind count most minimum delta) values_fields IsWhole
  values_kept = record {
    at = λ lookup was.
        let parts = in_turn (field 4) (values_at kind count most minimum delta) lookup was in
        table_known lookup ((values_give parts.between (number_read causes.End 4 parts.between parts.first)).at lookup parts.second);
  }

table_kept : (kind : LookupKind) (dimensions entries most : ℕ) → Kept (table_at kind dimensions entries most) table_fields (λ lookup. number_of_type lookup ≡ lookup_type kind)
unfolding table_at
table_kept kind dimensions entries most =
    kept (tested (nat_lt 0 dimensions) causes.Lookup (λ some. bind (number causes.End 32) (λ minimum m. bind (number causes.End 32) (λ delta d.
    ends (values_kept kind (multiplicand_count kind dimensions entries) most minimum delta) (λ lookup whole. whole)))))

typed_kept : (type dimensions entries most : ℕ) → Kept (lookup_of_type type dimensions entries most) table_fields (λ lookup. type ≡ number_of_type lookup)
typed_kept type dimensions entries most =
    kept (chosen (type == 0) (λ zero. done (refl, eqb-true type 0 zero))
    (λ not0. chosen (type == 1) (λ one. ends (table_kept Lattice dimensions entries most) (λ lookup is. (refl, eqb-true type 1 one ∙ sym is)))
    (λ not1. chosen (type == 2) (λ two. ends (table_kept Tessellation dimensions entries most) (λ lookup is. (refl, eqb-true type 2 two ∙ sym is)))
    (λ not2. refused causes.Lookup))))

lookup_kept : (dimensions entries most : ℕ) → Kept (lookup_at dimensions entries most) lookup_fields (λ lookup. Unit {0})
unfolding lookup_at
lookup_kept dimensions entries most =
    kept (bind (number causes.End 4) (λ type small. ends (typed_kept type dimensions entries most) (λ lookup is. (ap (λ n. in_bits 4 n ++ table_fields lookup) is ∙ lookup_is lookup, tt))))

pub book_kept : (budget : Budget) → Kept (book_at budget) (λ book. book_fields book.0) (λ book. Unit {0})
unfolding book_at
book_kept budget =
    kept (bind (front_kept budget.entries) (λ front u. bind (lengths_kept front.1) (λ lengths long. last _ (lookup_kept front.0 front.1 budget.multiplicands) (λ lookup v.
    (ap (λ n. in_bits 24 0x564342 ++ (in_bits 16 front.0 ++ (in_bits 24 n ++ (length_fields lengths ++ lookup_fields lookup)))) (sym long), tt)))))

pub book_back : (budget : Budget) → Rewrites (book_at budget) (λ book. book_fields book.0)
book_back budget = kept_back (book_kept budget)

pub book_fits : (budget : Budget) (book : Codebook × Budget) → WasRead (book_at budget) book → All HasPlace (book_fields book.0)
book_fits budget = kept_fits (book_kept budget)
