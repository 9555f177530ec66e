-- What is known where tests 1 to 6 pass.
-- Assumes nothing.
use Prim.Native.Nat.{ℕ}
use mathlib.Core.Path.{◌≡◌, refl, sym, ◌∙◌}
use mathlib.Core.List.{List}
use Rattle.fields.specs.Faults.{first}
use Rattle.fields.proofs.Tests.{first_both}
use Rattle.network.specs.Decode.{decode_of}
use Rattle.network.specs.declared.net.Network.{Network}
use Rattle.bands.specs.declared.state.State.{State}
use Rattle.checks.specs.Tests.{call_fault}
use Rattle.checks.proofs.Passed.{call_passed}
use Rattle.checks.proofs.Rows.{bands-fair}
use Rattle.updates.specs.Asked.{CanRecompute, BandsWithin}

pub record Entered (file sums : List ℕ) (area : ℕ) (s : State) (n : Network) : Type 0 where
  pub none : call_fault file sums area s ≡ 0
  pub network : n ≡ (decode_of file).network
  pub can : CanRecompute file n sums area
  pub fair : BandsWithin n s

pub entered :
    (file sums : List ℕ) (area : ℕ) (s : State) {r : ℕ} {n : Network} →
    (r ≡ call_fault file sums area s) × (n ≡ (decode_of file).network) →
    r ≡ 0 →
    Entered file sums area s n
entered file sums area s e h =
    let p = call_passed file sums area s (sym e.0 ∙ h) in
    let l = p.load in
    record {
      none = sym e.0 ∙ h;
      network = e.1;
      can = rw e.1 (record { taken = l.taken; sums-in = l.store_in; sums-fit = p.sums-fit; area_in = l.area_in });
      fair = rw e.1 (λ t q. let f = bands-fair file _ l.taken s p.state t q in (f.order, f.within));
    }

-- and of tests after them
pub passed_on :
    (file sums : List ℕ) (area : ℕ) (s : State) {rest : ℕ} {n : Network} →
    0 ≡ first (call_fault file sums area s) rest →
    n ≡ (decode_of file).network →
    Entered file sums area s n × (rest ≡ 0)
passed_on file sums area s e k =
    let p = first_both _ _ (sym e) in
    (entered file sums area s (sym p.0, k) refl, p.1)
