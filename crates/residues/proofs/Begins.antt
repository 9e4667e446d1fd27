-- A decoding begins with lines that are zero, and with no class that was read.
use Rattle.std.proofs.Common.{◌≡◌, ◌⊎◌, ℕ, ◌*◌, ◌<◌, min, List, ℤ, length, replicate, ap, sym, ◌∙◌, arith}
use Rattle.std.specs.List.{All}
use Rattle.std.proofs.lemmas.List.{length-replicate}
use Rattle.std.proofs.lemmas.List.Elements.{All-replicate}
use Rattle.model_setup.specs.declared.residue.ResidueKind.TheVariants.{Spread, InRow, Interleaved}
use Rattle.residues.specs.Layout.{AreZero, AreLines}
use Rattle.residues.specs.Decoders.{vector_size, vector_count, HasLines, HasRows}
use Rattle.residues.specs.declared.decoder.Decoder.{Decoder}
use Rattle.residues.proofs.Layouts.{count_is_lines, size_is_line}

zero_small : (size : ℕ) (lines : List (List ℤ)) → All (λ line. length line ≡ size) lines → AreZero lines → AreLines size lines
zero_small size lines sizes zero = record { sizes = sizes; small = λ k e h i d lt. rw (zero k e h i d lt) (omega arith) }

pub begins_apart : (d : Decoder) (lines : List (List ℤ)) → (d.residue.now.kind ≡ Spread) ⊎ (d.residue.now.kind ≡ InRow) → All (λ line. length line ≡ d.line_size) lines → AreZero lines
    → d.size ≡ d.line_size → length d.wanted.now ≡ length lines → HasLines d lines
begins_apart d lines kinds sizes zero size count =
    let whole = size_is_line d.residue.now.kind (length lines) d.line_size kinds in
    record {
      are_lines = zero_small d.line_size lines sizes zero;
      size = omega arith;
      wanted = count ∙ sym (count_is_lines d.residue.now.kind (length lines) kinds);
    }

pub begins_together : (d : Decoder) (lines : List (List ℤ)) (most : ℕ) → d.residue.now.kind ≡ Interleaved → All (λ line. length line ≡ d.line_size) lines → AreZero lines
    → d.size ≡ min (d.line_size * length lines) most → length d.wanted.now ≡ 1 → HasLines d lines
begins_together d lines most kind sizes zero size one =
    let whole : vector_size d.residue.now.kind (length lines) d.line_size ≡ d.line_size * length lines = ap (λ k. vector_size k (length lines) d.line_size) kind in
    record {
      are_lines = zero_small d.line_size lines sizes zero;
      size = omega arith;
      wanted = one ∙ sym (ap (λ k. vector_count k (length lines)) kind);
    }

pub begins_unread : (d : Decoder) (classes : List ℕ) → 0 < length d.residue.now.cascades → classes ≡ replicate (length d.wanted.now * d.partitions) 0 → HasRows d classes
begins_unread d classes some none = record {
  count = ap length none ∙ length-replicate (length d.wanted.now * d.partitions) 0;
  named = rw none (All-replicate (λ class. class < length d.residue.now.cascades) (length d.wanted.now * d.partitions) 0 some);
}
