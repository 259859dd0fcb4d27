-- What the reads of a sheet write together: however the input is cut into reads, the steps of all reads, in their order, are those of the whole input:
-- theorem `dump-right` (R423; R258 says the same of the bench). Order: a read, reads one after another; commands behind commands; the theorem.
-- Assumes nothing.
use Rattle.std.specs.Prelude.{◌≡◌, refl, ℕ, ◌≤◌, length}
use Rattle.std.proofs.Common.{ap, sym, ◌∙◌}
use mathlib.Core.List.{List, [], ◌∷◌, ◌++◌, map, flatten, append-nil, append_assoc, map-append}
use Rattle.sheet.specs.declared.Command.{Command}
use Rattle.sheet.specs.Lines.{Kept}
use Rattle.sheet.specs.Commands.{kept_command}
use Rattle.sheet.specs.Cutting.{held_bytes, Cutting, handed_on, finished_answer, feed_bytes, feed_reads, start_cutting, finish_cutting}
use Rattle.sheet.proofs.Cuts.{commands-right}
use Rattle.session.specs.Session.{perform, perform_all, ledger_words, new_store}
use Rattle.session.specs.Reads.{Sheet, start_sheet, cutter, carry_out, end_cutting, answer_read, NoneEmpty}
use Rattle.session.proofs.ReadLaws.{cutter-behind, reads-behind}
use Rattle.session.specs.Coming.{brought, cursor_at, coming}
use Rattle.replay.specs.Replay.{carried_out, moves_asked, command_bytes, moves_bytes, dump_all, sheet_dump}
use Rattle.replay.proofs.StepsLaws.{start-unwritten}
use Rattle.replay.specs.Dumps.{read_dump, reads_dump}

-- a read's commands
read-commands : (s : Sheet) (piece : List ℕ) → read_dump s piece ≡ dump_all (coming piece s.buffer (cursor_at 0 s.pending)).commands s.store
unfolding read_dump
read-commands s piece = start-unwritten piece s.store s.buffer s.pending

-- commands behind commands
dump-behind : (cs ds : List Command) (w : List ℕ) → dump_all (cs ++ ds) w ≡ dump_all cs w ++ dump_all ds (perform_all cs w).store
unfolding dump_all perform_all
dump-behind [] ds w = refl
dump-behind (c ∷ cs) ds w =
    let first : List ℕ = command_bytes c w in
    let moves : List ℕ = moves_bytes (moves_asked c) ledger_words (carried_out c w) in
    let later : List ℕ = dump_all cs (perform c w).store in
    let last : List ℕ = dump_all ds (perform_all cs (perform c w).store).store in
    ap (λ l. first ++ (moves ++ l)) (dump-behind cs ds (perform c w).store)
    ∙ sym (append_assoc first (moves ++ later) last ∙ ap (λ l. first ++ l) (append_assoc moves later last))

-- the lines of the reads behind those of the first
lines-behind : (store : List ℕ) (c : Cutting) (reads : List (List ℕ))
    → c.handed ++ finish_cutting (feed_reads (cutter (carry_out store c).sheet) reads) ≡ finish_cutting (feed_reads c reads)
unfolding finish_cutting
lines-behind store c reads =
    let d : Cutting = feed_reads (cutter (carry_out store c).sheet) reads in
    sym
    (ap (λ k. finish_cutting (feed_reads k reads)) (cutter-behind store c)
    ∙ ap finish_cutting (reads-behind c.handed (cutter (carry_out store c).sheet) reads)
    ∙ append_assoc c.handed d.handed (handed_on d.buffer (finished_answer d.pending)))

-- the first read, and the end of the input
some_read : (s : Sheet) (b : ℕ) (bs : List ℕ) → read_dump s (b ∷ bs) ≡ dump_all (map kept_command (feed_bytes (cutter s) (b ∷ bs)).handed) s.store
unfolding coming brought cutter
some_read s b bs = read-commands s (b ∷ bs)

store-behind : (s : Sheet) (c : Cutting) → (carry_out s.store c).sheet.store ≡ (perform_all (map kept_command c.handed) s.store).store
unfolding carry_out
store-behind s c = refl

last-read : (s : Sheet) → read_dump s [] ≡ dump_all (map kept_command (finish_cutting (cutter s))) s.store
unfolding coming brought end_cutting cutter
last-read s = read-commands s []

reads-dumped : (s : Sheet) (reads : List (List ℕ)) → NoneEmpty reads
    → reads_dump s (reads ++ ([] ∷ [])) ≡ dump_all (map kept_command (finish_cutting (feed_reads (cutter s) reads))) s.store
unfolding reads_dump NoneEmpty feed_reads answer_read
reads-dumped s [] h = append-nil (read_dump s []) ∙ last-read s
reads-dumped s ([] ∷ reads) h = absurd (h.0 refl)
reads-dumped s ((b ∷ bs) ∷ reads) h =
    let c : Cutting = feed_bytes (cutter s) (b ∷ bs) in
    let s' : Sheet = (carry_out s.store c).sheet in
    let rest : List Kept = finish_cutting (feed_reads (cutter s') reads) in
    ap (λ l. l ++ reads_dump s' (reads ++ ([] ∷ []))) (some_read s b bs)
    ∙ ap (λ l. dump_all (map kept_command c.handed) s.store ++ l) (reads-dumped s' reads h.1 ∙ ap (dump_all (map kept_command rest)) (store-behind s c))
    ∙ sym (dump-behind (map kept_command c.handed) (map kept_command rest) s.store)
    ∙ ap (λ ks. dump_all ks s.store) (sym (map-append kept_command c.handed rest) ∙ ap (map kept_command) (lines-behind s.store c reads))

-- however the input is cut into reads, what is written, read by read and at the end of the input, is the dump of the whole input
pub dump-right : (buffer : List ℕ) → held_bytes ≤ length buffer → (reads : List (List ℕ)) → NoneEmpty reads
    → reads_dump (start_sheet buffer) (reads ++ ([] ∷ [])) ≡ sheet_dump (flatten reads)
unfolding sheet_dump start_sheet start_cutting cutter
dump-right buffer room reads some =
    reads-dumped (start_sheet buffer) reads some ∙ ap (λ commands. dump_all commands new_store) (commands-right buffer room reads)
