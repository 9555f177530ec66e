-- The layers of a network that is taken keep the laws of the bands' model, and its tensors stand in the area as the model's layout says.
-- Assumes nothing.
use Prim.Native.Nat.{ℕ, suc, ◌*◌, ◌≤◌, ◌<◌}
use mathlib.Core.Path.{◌≡◌, refl, sym, ◌∙◌, ap, ap₂}
use mathlib.Core.Logic.{◌⊎◌, inl, inr}
use mathlib.Core.List.{List}
use native.Mathlib.Omega.{arith}
use lib.ListN.{length}
use Rattle.fields.specs.Shape.{bytes_of, row_bytes}
use Rattle.records.specs.Layer.{sums_of, record_len}
use Rattle.fields.specs.declared.shape.Shape.{Shape}
use Rattle.records.specs.declared.layer.Kind.{Kind}
use Rattle.records.specs.declared.layer.Kind.TheVariants.{Conv, Full, Add}
use Rattle.records.specs.declared.layer.Layer.{Layer}
use Rattle.network.specs.Network.{layer_of, tensor_of, zero_of, zero_by}
use Rattle.network.specs.Taken.{Taken}
use Rattle.network.specs.declared.net.Network.{Network}
use Rattle.network.proofs.Places.{tensors-apart, tensors-in}
use Rattle.lists.specs.Lists.{part}
use Rattle.layers.specs.Row.{row_of}
use Rattle.layers.proofs.Lengths.{ShapedBy, row_length}
use Rattle.layers.proofs.Local.{sees_by, SameRows, SameRecord, SameSums, row_local}
use Rattle.bands.specs.Within.{Sees}
use Rattle.histories.specs.Chain.{Looks, rows_in, SoundChain}
use Rattle.histories.specs.Model.{Laws}
use Rattle.histories.specs.Area.{SideBySide, Room}
use Rattle.histories.proofs.Chain.{windowed-laws}
use Rattle.checks.specs.Tensors.{link_by, link_of}
use Rattle.facts.proofs.Chains.{chain_of, chain_rows, links_sound}
use Rattle.updates.proofs.Ready.{layer-shaped}
use Rattle.facts.proofs.Model.{Present, net_of, fitted, tensor_from, par_of, row_with, model, layout}
use Rattle.facts.proofs.Tensors.{rows-bytes, tensor-length, tensor-row}

-- what a row sees stands in the window of its layer's link
sees_window : (k : Kind) (y : Layer) (m i r : ℕ) → sees_by k y i r → Sees (link_by k y m) i r
sees_window (Conv c) y m i r w = w
sees_window (Full f) y m i r w = w
sees_window (Add a) y m i r w = w

-- tensors whose rows are the same where row i sees them
rows_seen :
    (k : Kind) (y : Layer) (x : Shape) (i : ℕ) (S S' : ℕ → List ℕ) →
    y.input ≡ x →
    ((r : ℕ) → sees_by k y i r → r < x.rows → S r ≡ S' r) →
    SameRows k y i (tensor_from x S) (tensor_from x S')
rows_seen k y x i S S' e h r w g =
    let inside : r < x.rows = omega (arith, ap (λ (s : Shape). s.rows) e) in
    rw e (tensor-row x S r inside ∙ ap (fitted (row_bytes x)) (h r w inside) ∙ sym (tensor-row x S' r inside))

-- the bytes of tensor t, as the model counts them
pub chain_bytes : (n : Network) (t : ℕ) → rows_in (chain_of n) t * row_bytes (tensor_of n t) ≡ bytes_of (tensor_of n t)
chain_bytes n t = ap (λ (k : ℕ). k * row_bytes (tensor_of n t)) (chain_rows n t) ∙ rows-bytes (tensor_of n t)

-- layer m of a network like n
module _ {n : Network} (p : Present n) (m : ℕ) (h : m < n.count) where
  -- the network has it
  pub there : m < (net_of p).count
  there = omega (arith, p.alike.count)

  -- it reads tensor m
  pub input-is : (layer_of (net_of p) m).input ≡ tensor_of n m
  input-is = (p.taken.layers m there).input ∙ p.alike.tensors m

  -- what it makes is of the shape of its kind
  pub shaped : ShapedBy (layer_of (net_of p) m).kind (layer_of (net_of p) m)
  shaped = layer-shaped p.file (net_of p) p.taken m there

  -- what it sees, the model's layer looks at
  looks : (i t r : ℕ) → (t ≡ m) ⊎ (t ≡ (link_of n m).other) → sees_by (layer_of (net_of p) m).kind (layer_of (net_of p) m) i r → Looks (chain_of n) m i t r
  looks i t r e w = (e, rw (p.alike.links m h) at (sees_window (layer_of (net_of p) m).kind (layer_of (net_of p) m) m i r w))

-- a row is the same where the layer's parameters, its inputs' zero-points and the rows that it looks at are
same_row :
    {n : Network} → SoundChain (chain_of n) →
    (p p' : Present n) (S S' : ℕ → ℕ → List ℕ) (m i : ℕ) →
    m < n.count →
    i < rows_in (chain_of n) (suc m) →
    par_of n p m ≡ par_of n p' m →
    zero_of (net_of p) m ≡ zero_of (net_of p') m →
    zero_of (net_of p) (link_of n m).other ≡ zero_of (net_of p') (link_of n m).other →
    ((t r : ℕ) → Looks (chain_of n) m i t r → r < rows_in (chain_of n) t → S t r ≡ S' t r) →
    row_with n p m S i ≡ row_with n p' m S' i
same_row {n} sound p p' S S' m i h hi e ez eo same =
    let y = layer_of (net_of p) m in
    let j = (link_of n m).other in
    let x = tensor_of n m in
    let ey : y ≡ layer_of (net_of p') m = ap (λ (w : Layer × List ℕ × List ℕ). w.0) e in
    let ein = input-is p m h in
    let long : (rows : ℕ → List ℕ) → length (tensor_from x rows) ≡ bytes_of y.input = λ rows. rw ein (tensor-length x rows) in
    let record_same : SameRecord y p.file p'.file =
    ap (λ (w : Layer × List ℕ × List ℕ). w.1) e ∙ ap (λ (l : Layer). part p'.file l.start (record_len l)) (sym ey) in
    let sums_same : SameSums y p.sums p'.sums =
    ap (λ (w : Layer × List ℕ × List ℕ). w.2) e ∙ ap (λ (l : Layer). part p'.sums l.sums (sums_of l.kind)) (sym ey) in
    let first = rows_seen y.kind y x i (S m) (S' m) ein
    (λ r w g. same m r (looks p m h i m r (inl refl) w) (omega (arith, chain_rows n m))) in
    let second = rows_seen y.kind y x i (S j) (S' j) ein
    (λ r w g. same j r (looks p m h i j r (inr refl) w) (omega (arith, sound.other-rows m h, chain_rows n m))) in
    let inside : i < y.output.rows = omega (arith, chain_rows n (suc m), ap (λ (s : Shape). s.rows) (p.alike.tensors (suc m))) in
    row_local y (zero_of (net_of p) m) (zero_of (net_of p) j) p.file p'.file p.sums p'.sums (tensor_from x (S m)) (tensor_from x (S' m))
    (tensor_from x (S j)) (tensor_from x (S' j)) i (shaped p m h) inside (long (S m)) (long (S' m)) record_same sums_same first second ∙
    ap₂ (λ (a b : ℕ). row_of y a b p'.file p'.sums (tensor_from x (S' m)) (tensor_from x (S' j)) i) ez eo ∙
    ap
    (λ (l : Layer).
    row_of l (zero_of (net_of p') m) (zero_of (net_of p') j) p'.file p'.sums (tensor_from x (S' m)) (tensor_from x (S' j)) i)
    ey

module _ (file : List ℕ) (n : Network) (taken : Taken file n) where
  -- the layers keep the laws of the model
  pub model-laws : Laws (model n)
  model-laws =
      windowed-laws (List ℕ) (Present n) (Layer × List ℕ × List ℕ) ℕ (chain_of n) (par_of n) (λ p. zero_of (net_of p)) (row_with n) (links_sound file n taken)
      (record {
        row_local = same_row (links_sound file n taken);
        zp-local = λ p p' m h e ez eo.
            ap₂ (λ (k : Kind) (z : ℕ). zero_by k z) (ap (λ (w : Layer × List ℕ × List ℕ). w.0.kind) e) ez;
      })

  -- the tensors stand one after another, and a layer's row has its tensor's width
  pub model-laid : SideBySide (model n) (layout n)
  model-laid = record {
    after = λ t u h g. omega (arith, chain_bytes n t, tensors-apart file n taken t u h g);
    wide = λ p m i S h hi.
        row_length (layer_of (net_of p) m) _ _ p.file p.sums _ _ i (shaped p m h) ∙ ap row_bytes (p.alike.tensors (suc m));
  }

  -- an area of that many bytes holds them
  pub model-room : (k : ℕ) → n.area ≤ k → Room (model n) (layout n) k
  model-room k h t g = omega (arith, chain_bytes n t, tensors-in file n taken t g)
