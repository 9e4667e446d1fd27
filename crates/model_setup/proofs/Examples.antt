-- Rows of the definitions, by computation.
use Rattle.std.proofs.Common.{◌≡◌, ℕ, List, [], ◌∷◌, ◌++◌, Ok, Err, refl}
use Rattle.std.specs.Prelude.{codes}
use Rattle.model_setup.specs.HeaderPackets.{ident_of, ident_at, bytes_at, format_at, bitrates_at, blocks_at, ident_framing_at, comment_of, comment_at, text_at, comment_framing_at}
use Rattle.model_setup.specs.declared.head.IdentCause.TheVariants as idents
use Rattle.model_setup.specs.declared.head.CommentCause.TheVariants as comments

-- an identification packet of two channels at 44100 Hz, up to the exponents
abbrev front : List ℕ
front = 1 ∷ codes "vorbis" ++ 0 ∷ 0 ∷ 0 ∷ 0 ∷ 2 ∷ 68 ∷ 172 ∷ 0 ∷ 0 ∷ 0 ∷ 0 ∷ 0 ∷ 0 ∷ 128 ∷ 181 ∷ 1 ∷ 0 ∷ 0 ∷ 0 ∷ 0 ∷ 0 ∷ []

-- short blocks of 256, long ones of 2048
whole : ident_of (front ++ 184 ∷ 1 ∷ []) ≡ Ok (record { channels = 2; rate = 44100; short = 256; long = 2048 })
unfolding ident_at bytes_at format_at bitrates_at blocks_at ident_framing_at
whole = refl

-- short blocks of 32
too_short : ident_of (front ++ 181 ∷ 1 ∷ []) ≡ Err idents.Blocks
unfolding ident_at bytes_at format_at bitrates_at blocks_at ident_framing_at
too_short = refl

unframed : ident_of (front ++ 184 ∷ 254 ∷ []) ≡ Err idents.Framing
unfolding ident_at bytes_at format_at bitrates_at blocks_at ident_framing_at
unframed = refl

cut : ident_of (front ++ 184 ∷ []) ≡ Err idents.End
unfolding ident_at bytes_at format_at bitrates_at blocks_at ident_framing_at
cut = refl

-- a comment packet with the vendor's text and one more
one_text : comment_of (3 ∷ codes "vorbis" ++ 2 ∷ 0 ∷ 0 ∷ 0 ∷ 109 ∷ 101 ∷ 1 ∷ 0 ∷ 0 ∷ 0 ∷ 3 ∷ 0 ∷ 0 ∷ 0 ∷ 97 ∷ 61 ∷ 98 ∷ 1 ∷ []) ≡ Ok 1
unfolding comment_at bytes_at text_at comment_framing_at
one_text = refl

cut_text : comment_of (3 ∷ codes "vorbis" ++ 2 ∷ 0 ∷ 0 ∷ 0 ∷ 109 ∷ []) ≡ Err comments.End
unfolding comment_at bytes_at text_at comment_framing_at
cut_text = refl
