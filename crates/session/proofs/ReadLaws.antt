-- A sheet as it is read: what each read does to the sheet under way and prints, and that, however the input is cut into reads, all that is printed is
-- what Session.antt says of the whole input: theorem `sheet-right`; and that it is printed as soon as a line has ended: theorem `lines-right`.
-- Order: a sheet under way; its start; a read; reads one after another; what is printed behind what was printed; the theorems. Assumes nothing.
use Rattle.std.specs.Prelude.{◌≡◌, refl, ℕ, ◌≤◌, length}
use Rattle.std.proofs.Common.{ap, sym, ◌∙◌}
use mathlib.Core.List.{List, [], ◌∷◌, ◌++◌, map, flatten, append-nil, append_assoc, map-append}
use Rattle.sheet.specs.declared.Command.{Command}
use Rattle.sheet.specs.Lines.{Kept, lines, ended_part}
use Rattle.sheet.specs.Commands.{kept_command}
use Rattle.sheet.specs.Cutting.{held_bytes, Cutting, feed_bytes, feed_reads, start_cutting, finish_cutting}
use Rattle.sheet.specs.Cuts.{handed_before}
use Rattle.sheet.proofs.Cuts.{bytes-behind, kept-commands, commands-right, cut-so-far}
use Rattle.session.specs.Session.{perform, perform_all, new_store, sheet_output}
use Rattle.session.specs.Reads.{Sheet, sheet, start_sheet, cutter, carry_out, end_cutting, answer_read, printed_before, answer_reads, NoneEmpty, Reached}

-- commands behind commands, lines behind lines
pub perform-behind : (cs ds : List Command) (w : List ℕ)
    → perform_all (cs ++ ds) w
    ≡ record {
      store = (perform_all ds (perform_all cs w).store).store;
      output = (perform_all cs w).output ++ (perform_all ds (perform_all cs w).store).output;
    }
unfolding perform_all
perform-behind [] ds w = refl
perform-behind (c ∷ cs) ds w =
    ap (λ p. record { store = p.store; output = (perform c w).output ++ p.output }) (perform-behind cs ds (perform c w).store)
    ∙ ap (λ o. record { store = (perform_all ds (perform_all cs (perform c w).store).store).store; output = o })
    (sym (append_assoc (perform c w).output (perform_all cs (perform c w).store).output (perform_all ds (perform_all cs (perform c w).store).store).output))

pub carry-behind : (store : List ℕ) (c d : Cutting)
    → carry_out store (handed_before c.handed d) ≡ printed_before (carry_out store c).output (carry_out (carry_out store c).sheet.store d)
unfolding carry_out
carry-behind store c d =
    ap (λ p. record { sheet = sheet p.store d.buffer d.pending; output = p.output })
    (ap (λ cs. perform_all cs store) (map-append kept_command c.handed d.handed)
    ∙ perform-behind (map kept_command c.handed) (map kept_command d.handed) store)

-- a cutter that has handed lines on is the sheet's new one behind them
pub cutter-behind : (store : List ℕ) (c : Cutting) → c ≡ handed_before c.handed (cutter (carry_out store c).sheet)
unfolding cutter carry_out
cutter-behind store c = ap (λ ks. record { handed = ks; buffer = c.buffer; pending = c.pending }) (sym (append-nil c.handed))

pub reads-behind : (earlier : List Kept) (c : Cutting) (reads : List (List ℕ)) → feed_reads (handed_before earlier c) reads ≡ handed_before earlier (feed_reads c reads)
unfolding feed_reads
reads-behind earlier c [] = refl
reads-behind earlier c (bytes ∷ reads) = ap (λ d. feed_reads d reads) (bytes-behind earlier c bytes) ∙ reads-behind earlier (feed_bytes c bytes) reads

carry-reads : (store : List ℕ) (c : Cutting) (reads : List (List ℕ))
    → carry_out store (feed_reads c reads)
    ≡ printed_before (carry_out store c).output (carry_out (carry_out store c).sheet.store (feed_reads (cutter (carry_out store c).sheet) reads))
carry-reads store c reads =
    ap (carry_out store) (ap (λ d. feed_reads d reads) (cutter-behind store c) ∙ reads-behind c.handed (cutter (carry_out store c).sheet) reads)
    ∙ carry-behind store c (feed_reads (cutter (carry_out store c).sheet) reads)

-- reads answered one after another carry out the lines that they end
reads-answered : (s : Sheet) (reads : List (List ℕ)) → NoneEmpty reads → answer_reads s reads ≡ carry_out s.store (feed_reads (cutter s) reads)
unfolding answer_reads answer_read NoneEmpty feed_reads carry_out cutter perform_all
reads-answered s [] h = refl
reads-answered s ([] ∷ reads) h = absurd (h.0 refl)
reads-answered s ((b ∷ bs) ∷ reads) h =
    let c : Cutting = feed_bytes (cutter s) (b ∷ bs) in
    ap (printed_before (carry_out s.store c).output) (reads-answered (carry_out s.store c).sheet reads h.1)
    ∙ sym (carry-reads s.store c reads)

-- and one read more
read-last : (s : Sheet) (reads : List (List ℕ)) (last : List ℕ)
    → answer_reads s (reads ++ (last ∷ [])) ≡ printed_before (answer_reads s reads).output (answer_read (answer_reads s reads).sheet last)
unfolding answer_reads
read-last s [] last = ap (λ o. record { sheet = (answer_read s last).sheet; output = o }) (append-nil (answer_read s last).output)
read-last s (read ∷ reads) last =
    ap (printed_before (answer_read s read).output) (read-last (answer_read s read).sheet reads last)
    ∙ ap (λ o. record { sheet = (answer_read (answer_reads (answer_read s read).sheet reads).sheet last).sheet; output = o })
    (sym
    (append_assoc (answer_read s read).output (answer_reads (answer_read s read).sheet reads).output
    (answer_read (answer_reads (answer_read s read).sheet reads).sheet last).output))

end-answered : (store : List ℕ) (c : Cutting)
    → (carry_out store c).output ++ (answer_read (carry_out store c).sheet []).output ≡ (perform_all (map kept_command (finish_cutting c)) store).output
unfolding answer_read end_cutting finish_cutting cutter carry_out
end-answered store c = ap (λ a. a.output) (sym (carry-behind store c (end_cutting (cutter (carry_out store c).sheet))))

-- however the input is cut into reads, what is printed, read by read and at the end of the input, is what the whole input prints
pub sheet-right : (buffer : List ℕ) → held_bytes ≤ length buffer → (reads : List (List ℕ)) → NoneEmpty reads
    → (answer_reads (start_sheet buffer) (reads ++ ([] ∷ []))).output ≡ sheet_output (flatten reads)
unfolding sheet_output start_sheet start_cutting cutter
sheet-right buffer room reads some =
    let s : Sheet = start_sheet buffer in
    ap (λ a. a.output) (read-last s reads [])
    ∙ ap (λ a. a.output ++ (answer_read a.sheet []).output) (reads-answered s reads some)
    ∙ end-answered new_store (feed_reads (cutter s) reads)
    ∙ ap (λ commands. (perform_all commands new_store).output) (commands-right buffer room reads)

-- and while the input is open, what is printed is what the input so far prints up to its last LF: every line that has ended has been answered
pub lines-right : (buffer : List ℕ) → held_bytes ≤ length buffer → (reads : List (List ℕ)) → NoneEmpty reads
    → (answer_reads (start_sheet buffer) reads).output ≡ sheet_output (ended_part (flatten reads))
unfolding sheet_output start_sheet start_cutting cutter carry_out
lines-right buffer room reads some =
    ap (λ a. a.output) (reads-answered (start_sheet buffer) reads some)
    ∙ ap (λ ks. (perform_all (map kept_command ks) new_store).output) (cut-so-far buffer room reads)
    ∙ ap (λ commands. (perform_all commands new_store).output) (kept-commands (lines (ended_part (flatten reads))))

pub reached-start : (buffer : List ℕ) (s : Sheet) → s ≡ start_sheet buffer → Reached buffer s
unfolding answer_reads
reached-start buffer s e = record { reads = []; leaves = e }

pub reached-more : (buffer : List ℕ) (s s' : Sheet) (piece : List ℕ) → s' ≡ (answer_read s piece).sheet → Reached buffer s → Reached buffer s'
reached-more buffer s s' piece e r =
    record {
      reads = r.reads ++ (piece ∷ []);
      leaves = e ∙ ap (λ t. (answer_read t piece).sheet) r.leaves ∙ sym (ap (λ a. a.sheet) (read-last (start_sheet buffer) r.reads piece));
    }
