use Rattle.std.specs.Prelude.{◌≡◌, ℕ, ◌<◌, ◌≤◌, List, [], ◌∷◌}
use Rattle.ats_network.specs.Network.{DeclaredNetwork}
use Rattle.ats_certificate.specs.declared.row.Row.{Row}
use Rattle.ats_trace.specs.Clocks.{IsLegal}
use Rattle.ats_trace.specs.Journey.{Travel}
use Rattle.ats_trace.specs.Run.{releases_of}
use Rattle.ats_trace.specs.Talker.{talker_of, KeepsBuckets}
use Rattle.ats_buffer.specs.Occupancy.{occupancy}
use Rattle.ats_buffer.specs.Buffer.{buffer_at, buffers_of}
use Rattle.ats_examples.specs.Networks.{line, line_and_flow, fork, fork_of_classes}
use Rattle.ats_examples.specs.Rows.{line_rows, fork_rows, hop_rows}
use Rattle.ats_examples.specs.Runs.{one_frame, behind_a_flow, first_goes_first, regulated}
use Rattle.ats_examples.specs.Babbler.{babbler}
use Rattle.ats_examples.specs.ClassBounds.{behind_two}
use Rattle.ats_examples.specs.SoundRuns.{IsCertified}
use Rattle.ats_tree_examples.specs.Networks.{split, split_and_flow, split_and_stream, tree}
use Rattle.ats_tree_examples.specs.Runs.{behind_flow, one_split, over_tree, tied_first}
use Rattle.ats_tree_examples.specs.Bounds.{rows_beside_flow, split_rows, tree_rows}
use Rattle.ats_tree_examples.specs.Served.{rows_with_bursts}
use Rattle.ats_buffer_law.specs.Laws.{NodesKeepBuckets}

-- at a port of a legal run so many bits of a class are there at a time, whose talkers keep their buckets, and the
-- buffer has room for them
pub record IsHeld (network : DeclaredNetwork) (rows : List Row) (run : List Travel) (port class time bits : ℕ)
    : Type 0 where
  pub legal : IsLegal network run
  pub keep : NodesKeepBuckets network run legal port class
  pub there : occupancy network run port class time ≡ bits
  pub fits : bits ≤ buffer_at network rows port class

-- one frame of 12336 bits on the line: it is there from its release, at the first port, and from its arrival, at the
-- second, and no longer when its transmission ends. A frame that its scheduler holds back is there from its arrival,
-- and not only once it is eligible. On the fork two frames come together. A flow's frame is in no class but its own
pub record BuffersAreMet : Type 0 where
  pub line_certified : IsCertified line line_rows
  pub line_buffers : buffers_of line line_rows ≡ 13569 ∷ 14736 ∷ []
  pub released : IsHeld line line_rows one_frame 0 6 0 12336
  pub last : IsHeld line line_rows one_frame 0 6 12335999 12336
  pub ended : occupancy line one_frame 0 6 12336000 ≡ 0
  pub on_its_way : occupancy line one_frame 2 6 13835999 ≡ 0
  pub arrived : IsHeld line line_rows one_frame 2 6 13836000 12336
  pub held_back : occupancy line regulated 2 6 26172000 ≡ 12336
  pub still_held : occupancy line regulated 2 6 137195999 ≡ 12336
  pub fork_certified : IsCertified fork fork_rows
  pub fork_buffers : buffers_of fork fork_rows ≡ 13569 ∷ 31938 ∷ 13569 ∷ []
  pub together : IsHeld fork fork_rows first_goes_first 2 6 13836000 24672
  pub flows_apart : occupancy line_and_flow behind_a_flow 0 6 1 ≡ 12336
  pub flows_own : occupancy line_and_flow behind_a_flow 0 0 1 ≡ 12336

-- the rows of the split beside a stream to its second listener
abbrev pub rows_of_shared : List Row
rows_of_shared = rows_with_bursts 24672 24000000 25172000

-- a copy is at its port as the frame is at that of the trunk: over one bridge both come at once, and at the talker's
-- port the frame is there once. Behind a flow's frame the frame waits on the trunk, when its copy is gone. At a port of
-- a branch a copy is there together with a frame of another stream; and over three bridges the last copy. The buffer of
-- a branch's first port goes by the port that leads to the bridge, and not by that in front of it among the stream's
-- ports: beside the flow, whose frames the trunk's last port has to wait for, it is as without it
pub record CopiesAreHeld : Type 0 where
  pub split_certified : IsCertified split split_rows
  pub split_buffers : buffers_of split split_rows ≡ 13569 ∷ 14736 ∷ 14736 ∷ []
  pub at_talker : IsHeld split split_rows one_split 0 6 0 12336
  pub on_trunk : IsHeld split split_rows one_split 2 6 13836000 12336
  pub on_branch : IsHeld split split_rows one_split 4 6 13836000 12336
  pub flow_certified : IsCertified split_and_flow rows_beside_flow
  pub flow_buffers : buffers_of split_and_flow rows_beside_flow ≡ 13569 ∷ 15969 ∷ 14736 ∷ []
  pub waiting : IsHeld split_and_flow rows_beside_flow behind_flow 2 6 26172001 12336
  pub copy_there : IsHeld split_and_flow rows_beside_flow behind_flow 4 6 26172000 12336
  pub copy_gone : occupancy split_and_flow behind_flow 4 6 26172001 ≡ 0
  pub shared_certified : IsCertified split_and_stream rows_of_shared
  pub shared_buffers : buffers_of split_and_stream rows_of_shared ≡ 13569 ∷ 14736 ∷ 13569 ∷ 31938 ∷ []
  pub together : IsHeld split_and_stream rows_of_shared tied_first 4 6 13836000 24672
  pub tree_certified : IsCertified tree tree_rows
  pub tree_buffers : buffers_of tree tree_rows ≡ 13569 ∷ 14736 ∷ 14736 ∷ 14736 ∷ 14736 ∷ 14736 ∷ 14736 ∷ []
  pub last_copy : IsHeld tree tree_rows (over_tree ∷ []) 12 6 41508000 12336

-- beside the babbler the other station's port holds its frame, and the babbler's own port more than its buffer
pub record BabblerCounts : Type 0 where
  pub certified : IsCertified fork fork_rows
  pub beside : IsHeld fork fork_rows babbler 0 6 0 12336
  pub not_kept : (legal : IsLegal fork babbler) → ¬ NodesKeepBuckets fork babbler legal 4 6
  pub over : buffer_at fork fork_rows 4 6 < occupancy fork babbler 4 6 0
  pub held : occupancy fork babbler 4 6 0 ≡ 15456

-- where the two streams of the fork have two classes at the bridge, the buffer of class 5 has room though the talker of
-- the stream of class 6 does not keep its buckets there. Of class 6 nothing is promised then
pub record OtherClassesMayBabble : Type 0 where
  pub certified : IsCertified fork_of_classes hop_rows
  pub held : IsHeld fork_of_classes hop_rows (behind_two 6719999) 2 5 13836000 12336
  pub babbles : ¬ KeepsBuckets fork_of_classes (releases_of (behind_two 6719999)) (talker_of fork_of_classes 1)
  pub not_kept : (legal : IsLegal fork_of_classes (behind_two 6719999))
      → ¬ NodesKeepBuckets fork_of_classes (behind_two 6719999) legal 2 6
