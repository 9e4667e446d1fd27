-- What holds of headers that are accepted.
use Rattle.std.proofs.Common.{◌≡◌, ℕ, Bool, true, false, cond, nat_lt, is_ok, List, [], ◌∷◌, Option, Some, None, Result, Ok, Err, refl, ap, sym, ◌∙◌}
use Rattle.std.specs.Option.{option_map_or}
use Rattle.std.specs.Result.{result_unwrap_or}
use Rattle.model_setup.specs.declared.head.IdentFields.{IdentFields}
use Rattle.model_setup.specs.declared.head.IdentCause.{IdentCause}
use Rattle.model_setup.specs.declared.head.CommentCause.{CommentCause}
use Rattle.model_setup.specs.declared.setup.SetupFault.{SetupFault}
use Rattle.model_setup.specs.HeaderPackets.{ident_of, comment_of}
use Rattle.model_setup.specs.SetupPacket.{SetupFields, setup_of}
use Rattle.model_line.specs.declared.film.TheConstants.{MOST_CHANNELS}
use Rattle.model_line.specs.declared.film.FilmFault.{FilmFault}
use Rattle.model_line.specs.declared.film.FilmFault.TheVariants as faults
use Rattle.model_line.specs.LinkTests.{Headers, ident_fault, channels_fault, comment_fault, setup_fault, setup_fault_by}
use Rattle.model_line.specs.Acceptance.{first_fault, unless, no_fields, no_setup, ident_by, setup_by}
use Rattle.film_blocks.specs.Headers.{said_by, heads_by}

abbrev Said : Type 0
Said = IdentFields × SetupFields

-- the last tests find nothing
record Passes (setup : Result SetupFields SetupFault) (said told : Said) : Type 0 where
  read : is_ok setup ≡ true
  same : said ≡ told

last_tests : (number : ℕ) (many : Bool) (fault : FilmFault) (texts : Result ℕ CommentCause) (setup : Result SetupFields SetupFault) (said told : Said)
    → unless (first_fault (None ∷ None ∷ cond many (Some fault) None ∷ comment_fault number texts ∷ setup_fault number setup ∷ [])) said ≡ Ok told → Passes setup said told
last_tests number true fault texts setup said told h = absurd (cc)
last_tests number false fault (Err cause) setup said told h = absurd (cc)
last_tests number false fault (Ok texts) (Err bad) said told h = absurd (cc)
last_tests number false fault (Ok texts) (Ok setup) said told h = record { read = refl; same = cc }

-- no test of three headers finds anything
record AllPass (ident : Result IdentFields IdentCause) (setup : List ℕ) (said told : Said) : Type 0 where
  fields : IdentFields
  read : ident ≡ Ok fields
  right : is_ok (setup_of fields.channels setup) ≡ true
  same : said ≡ told

all_tests : (number : ℕ) (ident : Result IdentFields IdentCause) (texts : Result ℕ CommentCause) (setup : List ℕ) (said told : Said)
    → unless (first_fault (None ∷ ident_fault number ident ∷ channels_fault number ident ∷ comment_fault number texts ∷ setup_fault_by number setup ident ∷ [])) said ≡ Ok told → AllPass ident setup said told
all_tests number (Err cause) texts setup said told h = absurd (cc)
all_tests number (Ok fields) texts setup said told h =
    let passes = last_tests number (nat_lt MOST_CHANNELS fields.channels) (faults.Channels number fields.channels) texts (setup_of fields.channels setup) said told h in
    record { fields = fields; read = refl; right = passes.read; same = passes.same }

-- headers that are accepted say this
pub record Accepted (headers : Option Headers) (ident : IdentFields) (setup : SetupFields) : Type 0 where
  pub ident_is : option_map_or ident_by headers no_fields ≡ ident
  pub setup_is : option_map_or setup_by headers no_setup ≡ setup
  pub right : option_map_or (λ (h : Headers). is_ok (setup_of ident.channels h.setup)) headers false ≡ true

same_ident : (said told : Said) → said ≡ told → said.0 ≡ told.0
same_ident said told e = ap (λ (p : Said). p.0) e

same_setup : (said told : Said) → said ≡ told → said.1 ≡ told.1
same_setup said told e = ap (λ (p : Said). p.1) e

by_fields : (ident : Result IdentFields IdentCause) (fields : IdentFields) → ident ≡ Ok fields → result_unwrap_or ident no_fields ≡ fields
by_fields ident fields e = rw e refl

pub accepted : (number : ℕ) (headers : Option Headers) (ident : IdentFields) (setup : SetupFields) → heads_by number headers ≡ Ok (ident, setup) → Accepted headers ident setup
accepted number None ident setup h = absurd (cc)
accepted number (Some headers) ident setup h =
    let passes = all_tests number (ident_of headers.ident) (comment_of headers.comment) headers.setup (said_by (Some headers)) (ident, setup) h in
    let ident-is : ident_by headers ≡ ident = same_ident (said_by (Some headers)) (ident, setup) passes.same in
    let fields-are : ident_by headers ≡ passes.fields = by_fields (ident_of headers.ident) passes.fields passes.read in
    let fields : passes.fields ≡ ident = sym fields-are ∙ ident-is in
    record {
      ident_is = ident-is;
      setup_is = same_setup (said_by (Some headers)) (ident, setup) passes.same;
      right = rw (← fields) passes.right;
    }
