-- Demand 3, on the calls: what a host gets.
use mathlib.Core.Path.{◌≡◌, refl, sym, ap, subst, ◌∙◌}
use Prim.Native.Nat.{ℕ, ◌+◌, ◌≤◌}
use mathlib.Core.List.{List, [], ◌∷◌, ◌++◌}
use lib.ListN.{length, take}
use Rattle.fields.specs.Model.{Disk}
use Rattle.registers.specs.Boxes.{Holds}
use Rattle.registers.specs.View.{inside_of}
use Rattle.saves.specs.Events.{Event, send, Answer, Run, run}
use Rattle.saves.specs.Stages.{Stage, acted}
use Rattle.runs.specs.Hosts.{Host, called, seen, stage_of, store_of, Sound}
use Rattle.runs.proofs.Any.{calls-run, calls-sound}
use Rattle.saves.specs.Words.{in_drive, Ready, Save, bytes_of, address_of, IsSave, saved_by, Sends, Only, ReadsBack, read_bytes, reply_to, LosesNone, data_reads, given_in}
use Rattle.saves.proofs.Demand.{save-touches, still-other, second-alone, either_order}
use Rattle.saves.proofs.ReadBack.{read_back}
use Rattle.runs.proofs.Steps.{held-is}
use Rattle.std.specs.Prelude.{Ok}

-- ---- from calls to the machine

store_is : (k : Host) (d : Disk) → in_drive (seen k) ≡ Holds (Ok d) → store_of k ≡ Ok d
unfolding inside_of
store_is k d e = held-is k.floppy.regs.drive.disk (store_of k) d e

-- a machine that stands where a host is goes where its calls go
module _ (es : List Event) (k : Host) (s : Sound k) (g : Stage) (e : g ≡ stage_of k) where
  run_is : run acted es g ≡ record { answers = (run called es k).answers; end = stage_of (run called es k).end }
  run_is = ap (run acted es) e ∙ calls-run es k s

  pub end_is : (run acted es g).end ≡ stage_of (run called es k).end
  end_is = ap (λ (r : Run Answer Stage). r.end) run_is

  pub answers-are : (run acted es g).answers ≡ (run called es k).answers
  answers-are = ap (λ (r : Run Answer Stage). r.answers) run_is

  pub made : (bytes : List ℕ) → Sends es bytes (run called es k).answers → Sends es bytes (run acted es g).answers
  made bytes m = subst (Sends es bytes) (sym answers-are) m

  pub made-back : (bytes : List ℕ) → Sends es bytes (run acted es g).answers → Sends es bytes (run called es k).answers
  made-back bytes m = subst (Sends es bytes) answers-are m

  slot_is : (d : Disk) → in_drive (run acted es g).end.world ≡ Holds (Ok d) → store_of (run called es k).end ≡ Ok d
  slot_is d q = store_is (run called es k).end d (ap (λ (h : Stage). in_drive h.world) (sym end_is) ∙ q)

-- ---- the demand

-- A save by calls, with any port reads and questions before, between and after its bytes, from any controller that is one: the store then holds the
-- disk on which the content of the sector at the address is the bytes sent, and nothing else is changed.
pub save-calls : (a : Save) (d : Disk) (k : Host) (es : List Event)
    → Sound k → Ready (seen k) d → (save : IsSave a d) → Sends es (bytes_of a) (run called es k).answers
    → (store_of (run called es k).end ≡ Ok (saved_by a d)) × Only (address_of a) a.content save.sector d (saved_by a d)
save-calls a d k es sound ready save m =
    let t = save-touches a d (stage_of k) es ready save (made es k sound (stage_of k) refl (bytes_of a) m) in
    (slot_is es k sound (stage_of k) refl (saved_by a d) t.0.disk-in, t.1)

-- Two saves to one address leave the disk that the second alone leaves.
pub second-calls : (a b : Save) (d : Disk) (k : Host) (es fs gs : List Event)
    → Sound k → Ready (seen k) d → IsSave a d → IsSave b d → address_of a ≡ address_of b
    → Sends es (bytes_of a) (run called es k).answers
    → Sends fs (bytes_of b) (run called fs (run called es k).end).answers
    → Sends gs (bytes_of b) (run called gs k).answers
    → store_of (run called fs (run called es k).end).end ≡ store_of (run called gs k).end
second-calls a b d k es fs gs sound ready sa sb same ma mb mc =
    let g : Stage = stage_of k in
    let j : Host = (run called es k).end in
    let h : Stage = (run acted es g).end in
    let e : h ≡ stage_of j = end_is es k sound g refl in
    let two : Sound j = calls-sound es k sound in
    let mc' = made gs k sound g refl (bytes_of b) mc in
    let slot = (save-touches b d g gs ready sb mc').0.disk-in in
    slot_is fs j two h e (saved_by b d)
    (second-alone a b d g es fs gs ready sa sb same (made es k sound g refl (bytes_of a) ma) (made fs j two h e (bytes_of b) mb) mc' ∙ slot)
    ∙ sym (slot_is gs k sound g refl (saved_by b d) slot)

-- Saves to two addresses leave the same disk in either order, if neither order is refused.
pub order-calls : (a b : Save) (d : Disk) (k : Host) (es fs fs' es' : List Event)
    → Sound k → Ready (seen k) d → IsSave a d → IsSave b d → (address_of a ≡ address_of b → ⊥)
    → Sends es (bytes_of a) (run called es k).answers → Sends fs (bytes_of b) (run called fs (run called es k).end).answers
    → Sends fs' (bytes_of b) (run called fs' k).answers → Sends es' (bytes_of a) (run called es' (run called fs' k).end).answers
    → store_of (run called fs (run called es k).end).end ≡ store_of (run called es' (run called fs' k).end).end
order-calls a b d k es fs fs' es' sound ready sa sb differ ma mb mb' ma' =
    let g : Stage = stage_of k in
    let j : Host = (run called es k).end in
    let h : Stage = (run acted es g).end in
    let e : h ≡ stage_of j = end_is es k sound g refl in
    let two : Sound j = calls-sound es k sound in
    let j' : Host = (run called fs' k).end in
    let h' : Stage = (run acted fs' g).end in
    let e' : h' ≡ stage_of j' = end_is fs' k sound g refl in
    let two' : Sound j' = calls-sound fs' k sound in
    let na = made es k sound g refl (bytes_of a) ma in
    let nb = made fs j two h e (bytes_of b) mb in
    let slot = (save-touches b (saved_by a d) h fs (save-touches a d g es ready sa na).0 (still-other a b d differ sb) nb).0.disk-in in
    let same = either_order a b d g es fs fs' es' ready sa sb differ na nb (made fs' k sound g refl (bytes_of b) mb') (made es' j' two' h' e' (bytes_of a) ma') in
    slot_is fs j two h e (saved_by b (saved_by a d)) slot ∙ sym (slot_is es' j' two' h' e' (saved_by b (saved_by a d)) (sym same ∙ slot))

-- A Read Data of the saved sector alone, sent next, hands out the save's bytes in order and then the reply, to any number of data-port reads up to both, of
-- which no status read loses a byte.
pub back-calls : (a : Save) (d : Disk) (code c1 eot gap dtl : ℕ) (k : Host) (es fs gs : List Event)
    → Sound k → Ready (seen k) d → (save : IsSave a d) → Sends es (bytes_of a) (run called es k).answers
    → let p : Host = (run called es k).end in
    ReadsBack a code c1 eot → Sends fs (read_bytes a code c1 eot gap) (run called fs p).answers
    → let q : Host = (run called fs p).end in
    Sends (send dtl ∷ []) (dtl ∷ []) (run called (send dtl ∷ []) q).answers
    → let r : Host = (run called (send dtl ∷ []) q).end in
    LosesNone gs (seen r) → data_reads gs ≤ length a.content + 7
    → given_in (run called gs r).answers ≡ take (data_reads gs) (a.content ++ reply_to a c1 eot save.sector)
back-calls a d code c1 eot gap dtl k es fs gs sound ready save ma back mb ml none-lost few =
    let g : Stage = stage_of k in
    let p : Host = (run called es k).end in
    let q : Host = (run called fs p).end in
    let r : Host = (run called (send dtl ∷ []) q).end in
    let sp : Sound p = calls-sound es k sound in
    let sq : Sound q = calls-sound fs p sp in
    let sr : Sound r = calls-sound (send dtl ∷ []) q sq in
    let gp : Stage = (run acted es g).end in
    let gq : Stage = (run acted fs gp).end in
    let gr : Stage = (run acted (send dtl ∷ []) gq).end in
    let ep : gp ≡ stage_of p = end_is es k sound g refl in
    let eq : gq ≡ stage_of q = end_is fs p sp gp ep in
    let er : gr ≡ stage_of r = end_is (send dtl ∷ []) q sq gq eq in
    ap given_in (sym (answers-are gs r sr gr er))
    ∙ read_back a d code c1 eot gap dtl g es fs gs ready save (made es k sound g refl (bytes_of a) ma) back
    (made fs p sp gp ep (read_bytes a code c1 eot gap) mb) (made (send dtl ∷ []) q sq gq eq (dtl ∷ []) ml)
    (subst (λ (y : Stage). LosesNone gs y.world) (sym er) none-lost) few
