-- The fields of the header packets, in the order of the standard, and the law that a refusal names
-- the leftmost of them that is wrong (Vorbis I, sections 4.2.1, 4.2.2 and 5.2.1).
use Rattle.std.specs.Prelude.{ℕ, zero, suc, ◌+◌, ◌*◌, ◌/◌, ◌%◌, List, [], ◌∷◌, ◌++◌, Option, Some, None, ◌==◌, nat_lt, codes}
use Rattle.model_bits.specs.Places.{number_at}
use Rattle.model_setup.specs.Fields.{Field, GoesBy, any_number, byte_fields}
use Rattle.model_setup.specs.HeaderPackets.{ident_of, comment_of, may_be_blocks}
use Rattle.model_setup.specs.declared.head.IdentCause.{IdentCause}
use Rattle.model_setup.specs.declared.head.IdentCause.TheVariants as idents
use Rattle.model_setup.specs.declared.head.CommentCause.{CommentCause}
use Rattle.model_setup.specs.declared.head.CommentCause.TheVariants as comments

-- ---- the identification packet

abbrev pub version_field : Field IdentCause
version_field = record {
  place = 56;
  width = 32;
  right = λ version. version == 0;
  cause = idents.Version;
}

abbrev pub channels_field : Field IdentCause
channels_field = record {
  place = 88;
  width = 8;
  right = λ channels. nat_lt 0 channels;
  cause = idents.Channels;
}

abbrev pub rate_field : Field IdentCause
rate_field = record { place = 96; width = 32; right = λ rate. nat_lt 0 rate; cause = idents.Rate }

-- the three bitrates
abbrev pub bitrate_fields : List (Field IdentCause)
bitrate_fields = any_number idents.End 128 32 ∷ any_number idents.End 160 32
    ∷ any_number idents.End 192 32 ∷ []

-- the exponents of the sizes of the blocks, which share a byte: the short ones' are its lower four
-- bits
abbrev pub blocks_field : Field IdentCause
blocks_field = record {
  place = 224;
  width = 8;
  right = λ both. may_be_blocks (both % 16) (both / 16);
  cause = idents.Blocks;
}

abbrev pub ident_framing_field : Field IdentCause
ident_framing_field = record {
  place = 232;
  width = 1;
  right = λ flag. flag == 1;
  cause = idents.Framing;
}

abbrev pub ident_fields : List (Field IdentCause)
ident_fields = byte_fields idents.Kind 0 (1 ∷ codes "vorbis") ++ version_field ∷ channels_field
    ∷ rate_field ∷ bitrate_fields ++ blocks_field ∷ ident_framing_field ∷ []

-- A packet is an identification packet where all of its fields are right; else the cause is that
-- of the leftmost that isn't.
abbrev pub IdentNamesLeftmost : Type 0
IdentNamesLeftmost = (bytes : List ℕ) → GoesBy idents.End bytes ident_fields (ident_of bytes)

-- ---- the comment packet, whose own lengths say where its fields stand

abbrev pub or_zero : Option ℕ → ℕ
or_zero (Some number) = number
or_zero None = 0

-- the length or the count that stands at a place; one that is missing counts as 0, and is itself a
-- field that is wrong, so that nothing depends on those behind it
abbrev pub count_at : List ℕ → ℕ → ℕ
count_at bytes place = or_zero (number_at bytes place 32)

-- where the text at a place ends: it stands behind its length in bytes
abbrev pub text_end : List ℕ → ℕ → ℕ
text_end bytes place = place + 32 + 8 * count_at bytes place

abbrev pub text_fields : List ℕ → ℕ → List (Field CommentCause)
text_fields bytes place =
    any_number comments.End place 32
    ∷ any_number comments.End (place + 32) (8 * count_at bytes place) ∷ []

-- the fields of so many texts in a row, and where they end
abbrev pub texts_fields : List ℕ → ℕ → ℕ → List (Field CommentCause)
texts_fields bytes place zero = []
texts_fields bytes place (suc count) =
    text_fields bytes place ++ texts_fields bytes (text_end bytes place) count

abbrev pub texts_end : List ℕ → ℕ → ℕ → ℕ
texts_end bytes place zero = place
texts_end bytes place (suc count) = texts_end bytes (text_end bytes place) count

abbrev pub comment_framing_field : ℕ → Field CommentCause
comment_framing_field place =
    record { place = place; width = 1; right = λ flag. flag == 1; cause = comments.Framing }

-- the number of the texts behind the vendor's, the texts, and the framing bit
abbrev pub list_fields : List ℕ → ℕ → List (Field CommentCause)
list_fields bytes place =
    let count = count_at bytes place in
    any_number comments.End place 32 ∷ texts_fields bytes (place + 32) count
    ++ comment_framing_field (texts_end bytes (place + 32) count) ∷ []

abbrev pub comment_fields : List ℕ → List (Field CommentCause)
comment_fields bytes = byte_fields comments.Kind 0 (3 ∷ codes "vorbis") ++ text_fields bytes 56
    ++ list_fields bytes (text_end bytes 56)

-- A packet is a comment packet where all of its fields are right; else the cause is that of the
-- leftmost that isn't.
abbrev pub CommentNamesLeftmost : Type 0
CommentNamesLeftmost = (bytes : List ℕ)
    → GoesBy comments.End bytes (comment_fields bytes) (comment_of bytes)
