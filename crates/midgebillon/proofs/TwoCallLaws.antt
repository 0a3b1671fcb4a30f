-- Two calls of the library: a call of `midgebillon_read` with room for its answer is one of those of which run's
-- TwoCalls speaks, so both of its statements hold of these, too; and so is a call of `midgebillon_read_in` with enough
-- working memory besides.
use Rattle.std.specs.Prelude.{◌≡◌, false, ℕ, ◌≤◌, length}
use Rattle.characters.specs.Slices.{Slice}
use Rattle.run.specs.Promise.{no_room}
use Rattle.run.specs.TwoCalls.{Call}
use Rattle.midgebillon.specs.Library.{answer_size, answer_at, ReadInto, ReadIntoWith}
use Rattle.midgebillon.proofs.LibraryLaws.{with_room}

module _ (book text : Slice) (start allowance : ℕ) (cells cells' parses parses' answer answer' : Slice) where
  abbrev pub call_into : ReadInto book text start allowance cells cells' parses parses' answer answer' →
      answer_size ≤ length answer → Call
  call_into r room =
      record {
        bytes = book;
        text = text;
        start = start;
        allowance = allowance;
        cells = cells;
        parses = parses;
        gave = record { answer = answer_at answer'; cells = cells'; parses = parses' };
        promised = r.reads room;
      }

  abbrev pub call_into_with : (index index' store store' rows rows' : Slice) →
      ReadIntoWith book text start allowance cells cells' parses parses' index index' store store' rows rows' answer
      answer' →
      no_room index store rows ≡ false → answer_size ≤ length answer → Call
  call_into_with index index' store store' rows rows' r enough =
      call_into (with_room book text start allowance cells cells' parses parses' index index' store store' rows rows'
      answer answer' enough r)
