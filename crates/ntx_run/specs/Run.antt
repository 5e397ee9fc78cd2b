-- A whole run as a function of the words of the command line, the names of the fonts' feeds, the bytes of the inputs and the nodes that it opens with: its
-- status, its place, the bytes of its DVI file, the lines that it prints and the nodes that it leaves.
use Rattle.std.specs.Prelude.{ℕ, ◌^◌, ◌==◌, ◌+◌, nat_lt, nat_le, ◌&&◌, Bool, false, if◌then◌else◌, ℤ, List, [], ◌∷◌, ◌++◌, map, length, Option, None, Some, Result, Ok, Err}
use Rattle.std.specs.List.{list_all}
use Rattle.ntx_num.specs.Answer.{result_and_then, result_map}
use Rattle.ntx_words.specs.declared.words.BadWords.{BadWords}
use Rattle.ntx_words.specs.CommandLine.{CommandLine, command_line}
use Rattle.ntx_doc.specs.declared.command.Command.{Command}
use Rattle.ntx_doc.specs.declared.fault.DocFault.{DocFault}
use Rattle.ntx_doc.specs.declared.fault.DocWhy.TheVariants as doc_why
use Rattle.ntx_doc.specs.Document.{document_of}
use Rattle.ntx_tfm.specs.Font.{FontTables, font_of}
use Rattle.ntx_tfm.specs.declared.fault.FontFault.{FontFault}
use Rattle.ntx_tfm.specs.declared.fault.FontFault.TheVariants as font_fault
use Rattle.ntx_syntax.specs.declared.fault.SyntaxWhy.TheVariants as syntax_why
use Rattle.ntx_nodes.specs.Heap.{Heap}
use Rattle.ntx_machine.specs.declared.stop.Stop.{Stop}
use Rattle.ntx_machine.specs.Job as machine
use Rattle.ntx_run.specs.declared.stop.StopReason.{StopReason}
use Rattle.ntx_run.specs.declared.stop.StopReason.TheVariants as stop
use Rattle.ntx_run.specs.declared.outcome.Status.{Status}
use Rattle.ntx_run.specs.declared.outcome.Status.TheVariants as status
use Rattle.ntx_run.specs.declared.outcome.Place.{Place}
use Rattle.ntx_run.specs.StopReason.{of_machine, status_of, place_of, line_of}

-- the name and the bytes of a font
pub record FontBytes : Type 0 where
  pub name : List ℕ
  pub bytes : List ℕ

-- the bytes of the inputs
pub record InputBytes : Type 0 where
  pub document : List ℕ
  pub script : List ℕ
  pub patterns : List ℕ
  pub fonts : List FontBytes

-- what a run has given after a step: all bytes of the DVI file and all that was printed so far, and the nodes
pub record Moment : Type 0 where
  pub dvi : List ℕ
  pub printed : List ℕ
  pub heap : Heap

-- how a run ends, and what it has given by then: the bytes of the DVI file, what was printed, the line that says why it stopped, what stood after each
-- step of its machine, and the last nodes, if a machine was made
pub record Ending : Type 0 where
  pub status : Status
  pub place : Option Place
  pub dvi : List ℕ
  pub printed : List ℕ
  pub fault_line : List ℕ
  pub moments : List Moment
  pub heap : Option Heap

-- all that is printed
abbrev pub lines_of : Ending → List ℕ
lines_of ending = ending.printed ++ ending.fault_line

-- ---- words

-- A printed character of ASCII other than the space.
abbrev pub is_visible : ℕ → Bool
is_visible byte = nat_le 33 byte && nat_le byte 126

-- A feed's name has 1 to 255 bytes, each from 33 to 126.
abbrev pub is_feed_name : List ℕ → Bool
is_feed_name name = nat_le 1 (length name) && nat_le (length name) 255 && list_all is_visible name

-- There is a feed for each font that the words name, and each feed has a name.
abbrev pub has_feeds : Result CommandLine BadWords → List (List ℕ) → Bool
has_feeds (Ok line) names = length names == length line.sizes && list_all is_feed_name names
has_feeds (Err refusal) names = false

-- The words are of the form of the command line, and the feeds' names fit them.
unfoldable pub fits_form : List (List ℕ) → List (List ℕ) → Bool
fits_form words names = has_feeds (command_line words) names

abbrev pub sizes_of : Result CommandLine BadWords → List (Option ℤ)
sizes_of (Ok line) = line.sizes
sizes_of (Err refusal) = []

-- The size of each font that the words name, in scaled points. None is the font's design size.
unfoldable pub font_sizes : List (List ℕ) → List (Option ℤ)
font_sizes words = sizes_of (command_line words)

-- ---- inputs

-- the most bytes of a document
abbrev pub max_document : ℕ
max_document = 2 ^ 24

abbrev pub document_stop : Result (List Command) DocFault → Result (List Command) StopReason
document_stop (Ok commands) = Ok commands
document_stop (Err fault) = Err (stop.Document fault)

-- The document, beside so many fonts.
abbrev pub read_document : ℕ → List ℕ → Result (List Command) StopReason
read_document fonts bytes =
    if nat_lt max_document (length bytes) then Err (stop.Document (record { line = 0; why = doc_why.Size })) else document_stop (document_of bytes fonts)

-- An input that has to be empty.
abbrev pub read_empty : StopReason → List ℕ → Result (Unit {0}) StopReason
read_empty refusal [] = Ok tt
read_empty refusal (byte ∷ bytes) = Err refusal

abbrev pub read_script : List ℕ → Result (Unit {0}) StopReason
read_script bytes = read_empty (stop.Script (record { line = 0; why = syntax_why.Size })) bytes

abbrev pub read_patterns : List ℕ → Result (Unit {0}) StopReason
read_patterns bytes = read_empty (stop.Patterns (record { line = 0 })) bytes

-- the most bytes of a font
abbrev pub max_font : ℕ
max_font = 2 ^ 18

abbrev pub font_stop : ℕ → Result FontTables FontFault → Result FontTables StopReason
font_stop k (Ok tables) = Ok tables
font_stop k (Err fault) = Err (stop.Font k fault)

-- The k-th font, counted from 1, with this size and name.
abbrev pub read_font : ℕ → Option ℤ → List ℕ → List ℕ → Result FontTables StopReason
read_font k size name bytes =
    if nat_lt max_font (length bytes) then Err (stop.Font k font_fault.TooLarge) else font_stop k (font_of bytes name size)

-- The fonts from the k-th on, or the refusal of the first that is refused.
abbrev pub read_fonts : ℕ → List (Option ℤ) → List FontBytes → Result (List FontTables) StopReason
read_fonts k [] fonts = Ok []
read_fonts k (size ∷ sizes) [] = Ok []
read_fonts k (size ∷ sizes) (font ∷ fonts) =
    result_and_then (read_font k size font.name font.bytes) (λ tables. result_map (λ others. tables ∷ others) (read_fonts (k + 1) sizes fonts))

-- what the inputs say
pub record Job : Type 0 where
  pub commands : List Command
  pub fonts : List FontTables

abbrev pub job_of : List Command → List FontTables → Job
job_of commands fonts = record { commands = commands; fonts = fonts }

-- What the inputs say, or the first refusal: of the document, the script, the patterns, the fonts in their order.
abbrev pub read_inputs : List (Option ℤ) → InputBytes → Result Job StopReason
read_inputs sizes bytes =
    result_and_then (read_document (length bytes.fonts) bytes.document) (λ commands.
    result_and_then (read_script bytes.script) (λ _.
    result_and_then (read_patterns bytes.patterns) (λ _.
    result_map (job_of commands) (read_fonts 1 sizes bytes.fonts))))

-- ---- runs

abbrev pub status_for : Option StopReason → Status
status_for None = status.Done
status_for (Some why) = status_of why

abbrev pub place_for : Option StopReason → Option Place
place_for None = None
place_for (Some why) = place_of why

abbrev pub line_for : Option StopReason → List ℕ
line_for None = []
line_for (Some why) = line_of why

-- a run that stops for this reason, if there is one, after these bytes and moments and with these nodes
abbrev pub ending_for : Option StopReason → List ℕ → List Moment → Option Heap → Ending
ending_for why dvi moments heap =
    record { status = status_for why; place = place_for why; dvi = dvi; printed = []; fault_line = line_for why; moments = moments; heap = heap }

-- a run that stops before a machine is made
abbrev pub stopped : StopReason → Ending
stopped why = ending_for (Some why) [] [] None

-- the reason to stop, if the machine did
abbrev pub reason_of : Result (Unit {0}) Stop → Option StopReason
reason_of (Ok _) = None
reason_of (Err why) = Some (of_machine why)

-- What the machine gives, moment by moment. The line that says why the run stopped is printed after the last step.
abbrev pub moments_of : List ℕ → List machine.Moment → List Moment
moments_of line [] = []
moments_of line (m ∷ []) = record { dvi = m.dvi; printed = line; heap = m.heap } ∷ []
moments_of line (m ∷ rest) = record { dvi = m.dvi; printed = []; heap = m.heap } ∷ moments_of line rest

-- a run whose machine, over these nodes, came to this
abbrev pub machine_ending : Heap → machine.Ran → Ending
machine_ending opening r =
    let why = reason_of r.ending in
    ending_for why (machine.bytes_of r.after) (moments_of (line_for why) (machine.moments_of r.after)) (Some (machine.last_heap opening r.after))

abbrev pub ending_of : Heap → Result Job StopReason → Ending
ending_of opening (Ok job) = machine_ending opening (machine.job_ran job.fonts job.commands opening)
ending_of opening (Err why) = stopped why

-- The words and the feeds' names are refused before anything is read.
abbrev pub run_of : List (List ℕ) → InputBytes → Heap → Ending
run_of words bytes opening =
    if fits_form words (map (λ font. font.name) bytes.fonts) then ending_of opening (read_inputs (font_sizes words) bytes) else stopped stop.Words
