-- The identification and the comment packet of a Vorbis stream, as their bits stand there
-- (Vorbis I, sections 4.2.1, 4.2.2 and 5.2.1).
use Rattle.std.specs.Prelude.{◌≡◌, ℕ, ◌^◌, ◌≤◌, ◌<◌, List, [], ◌∷◌, length, Result, Ok, Err, Bool, ◌&&◌, ◌==◌, nat_lt, nat_le, codes}
use Rattle.model_bits.specs.Bits.{bits_of}
use Rattle.model_bits.specs.Reading.{Reading, ◌>>=◌, ◌>>◌, give, require, bits, times, relabel, without_rest}
use Rattle.model_setup.specs.declared.head.IdentFields.{IdentFields}
use Rattle.model_setup.specs.declared.head.StartCause.{StartCause}
use Rattle.model_setup.specs.declared.head.StartCause.TheVariants as starts
use Rattle.model_setup.specs.declared.head.IdentCause.{IdentCause}
use Rattle.model_setup.specs.declared.head.IdentCause.TheVariants as idents
use Rattle.model_setup.specs.declared.head.CommentCause.{CommentCause}
use Rattle.model_setup.specs.declared.head.CommentCause.TheVariants as comments

-- ---- the causes, as words and as one another

abbrev pub ident_word : IdentCause → List ℕ
ident_word idents.Kind = codes "kind"
ident_word idents.End = codes "end"
ident_word idents.Version = codes "version"
ident_word idents.Channels = codes "channels"
ident_word idents.Rate = codes "rate"
ident_word idents.Blocks = codes "blocks"
ident_word idents.Framing = codes "framing"

abbrev pub comment_word : CommentCause → List ℕ
comment_word comments.Kind = codes "kind"
comment_word comments.End = codes "end"
comment_word comments.Framing = codes "framing"

abbrev pub ident_start : StartCause → IdentCause
ident_start starts.Kind = idents.Kind
ident_start starts.End = idents.End

abbrev pub comment_start : StartCause → CommentCause
comment_start starts.Kind = comments.Kind
comment_start starts.End = comments.End

-- ---- the common start (section 4.2.1)

-- bytes that must be these: the first that differs is the kind, one that is missing is the end
unfoldable pub bytes_at : List ℕ → Reading StartCause ℕ
bytes_at [] = give 0
bytes_at (wanted ∷ others) = do
  byte ← bits starts.End 8
  require (byte == wanted) starts.Kind
  bytes_at others

-- the start of a header packet of this type: 1 identification, 3 comment, 5 setup
abbrev pub start_at : ℕ → Reading StartCause ℕ
start_at packet_type = bytes_at (packet_type ∷ codes "vorbis")

-- ---- the identification packet (section 4.2.2)

abbrev pub ident_field : ℕ → Reading IdentCause ℕ
ident_field count = bits idents.End count

-- the number of channels and the rate, behind the version
unfoldable pub format_at : Reading IdentCause (ℕ × ℕ)
format_at = do
  version ← ident_field 32
  require (version == 0) idents.Version
  channels ← ident_field 8
  require (nat_lt 0 channels) idents.Channels
  rate ← ident_field 32
  require (nat_lt 0 rate) idents.Rate
  give (channels, rate)

-- the three bitrates, which are hints
unfoldable pub bitrates_at : Reading IdentCause ℕ
bitrates_at = do
  maximum ← ident_field 32
  nominal ← ident_field 32
  minimum ← ident_field 32
  give 0

-- whether blocks of two to these powers may be the short and the long ones: 64 to 8192, in this
-- order
abbrev pub may_be_blocks : ℕ → ℕ → Bool
may_be_blocks short long = nat_le 6 short && nat_le short long && nat_le long 13

-- the sizes of a short and of a long block
unfoldable pub blocks_at : Reading IdentCause (ℕ × ℕ)
blocks_at = do
  short ← ident_field 4
  long ← ident_field 4
  require (may_be_blocks short long) idents.Blocks
  give (2 ^ short, 2 ^ long)

-- the framing bit, which must be set
unfoldable pub ident_framing_at : Reading IdentCause ℕ
ident_framing_at = do
  flag ← ident_field 1
  require (flag == 1) idents.Framing

unfoldable pub ident_at : Reading IdentCause IdentFields
ident_at = do
  relabel ident_start (start_at 1)
  format ← format_at
  bitrates_at
  blocks ← blocks_at
  ident_framing_at
  give (record { channels = format.0; rate = format.1; short = blocks.0; long = blocks.1 })

-- the fields of an identification packet, or the first cause; what follows it is ignored
abbrev pub ident_of : List ℕ → Result IdentFields IdentCause
ident_of bytes = without_rest (ident_at (bits_of bytes))

-- a size that a block may have
pub record IsBlockSize (size : ℕ) : Type 0 where
  pub exponent : ℕ
  pub at_least_64 : 6 ≤ exponent
  pub at_most_8192 : exponent ≤ 13
  pub is_power : size ≡ 2 ^ exponent

-- what every identification packet that is accepted says
pub record IsPlayable (fields : IdentFields) : Type 0 where
  pub has_channels : 0 < fields.channels
  pub few_channels : fields.channels < 256
  pub has_rate : 0 < fields.rate
  pub short : IsBlockSize fields.short
  pub long : IsBlockSize fields.long
  pub in_order : fields.short ≤ fields.long

-- ---- the comment packet (section 5.2.1)

abbrev pub comment_field : ℕ → Reading CommentCause ℕ
comment_field count = bits comments.End count

-- a text: its length in bytes, and the bytes
unfoldable pub text_at : Reading CommentCause (List ℕ)
text_at = do
  size ← comment_field 32
  times size (comment_field 8)

unfoldable pub comment_framing_at : Reading CommentCause ℕ
comment_framing_at = do
  flag ← comment_field 1
  require (flag == 1) comments.Framing

-- the texts of a comment packet, behind the vendor's
unfoldable pub comment_at : Reading CommentCause (List (List ℕ))
comment_at = do
  relabel comment_start (start_at 3)
  vendor ← text_at
  count ← comment_field 32
  texts ← times count text_at
  comment_framing_at
  give texts

abbrev pub counted : Result (List (List ℕ)) CommentCause → Result ℕ CommentCause
counted (Ok texts) = Ok (length texts)
counted (Err cause) = Err cause

-- how many texts a comment packet has, or the first cause; what follows it is ignored
abbrev pub comment_of : List ℕ → Result ℕ CommentCause
comment_of bytes = counted (without_rest (comment_at (bits_of bytes)))
