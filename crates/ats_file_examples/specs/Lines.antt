use Rattle.std.specs.Prelude.{◌≡◌, ℕ, List, [], ◌∷◌, ◌++◌, codes, None, Ok, Err}
use Rattle.ats_streams.specs.Stream.{declared_stream}
use Rattle.ats_requests.specs.declared.request.Request.{Request}
use Rattle.ats_requests.specs.declared.request.Request.TheVariants.{Admit, Lowest, Withdraw}
use Rattle.ats_request_file.specs.Reading.{requests_of}
use Rattle.ats_request_file.specs.declared.fault.RequestFault.TheVariants as request
use Rattle.ats_shape.specs.Reading.{shape_of}
use Rattle.ats_shape.specs.Shape.{DeclaredShape}
use Rattle.ats_shape.specs.Text.{text_of}
use Rattle.ats_shape.specs.declared.fault.ShapeFault.TheVariants as line
use Rattle.ats_text_examples.specs.Shaped.{frame, stream}
use Rattle.ats_file_examples.specs.Network.{crowd}

-- A request file over the network and a shape file, with many lines.

abbrev pub requests_text : List ℕ
requests_text =
    codes "admit a s1 s2 4 3000001 12001 71 1101 500001\n"
    ++ codes "admit b s3 s4 lowest 3000002 12002 72 1102 500002\n"
    ++ codes "withdraw p\n"
    ++ codes "admit c s4 s2 7 3000003 12003 73 1103 500003\n"
    ++ codes "withdraw q\n"
    ++ codes "admit d s2 s1 lowest 3000004 12004 74 1104 500004\n"

abbrev pub requests : List Request
requests =
    Admit (declared_stream (codes "a") (0 ∷ 6 ∷ 3 ∷ []) (4 ∷ 4 ∷ 4 ∷ []) 3000001 12001 71 1101 500001 None)
    ∷ Lowest (declared_stream (codes "b") (5 ∷ 9 ∷ 7 ∷ 11 ∷ []) (1 ∷ 1 ∷ 1 ∷ 1 ∷ []) 3000002 12002 72 1102 500002 None)
    ∷ Withdraw (codes "p")
    ∷ Admit (declared_stream (codes "c") (10 ∷ 6 ∷ 3 ∷ []) (7 ∷ 7 ∷ 7 ∷ []) 3000003 12003 73 1103 500003 None)
    ∷ Withdraw (codes "q")
    ∷ Lowest (declared_stream (codes "d") (2 ∷ 7 ∷ 1 ∷ []) (1 ∷ 1 ∷ 1 ∷ []) 3000004 12004 74 1104 500004 None) ∷ []

-- they are read so; of a line behind them the number is told
pub record RequestsAreCounted : Type 0 where
  pub read : requests_of crowd requests_text ≡ Ok requests
  pub no_name : requests_of crowd (requests_text ++ codes "withdraw\n") ≡ Err (request.BadLine 7)
  pub no_node : requests_of crowd
      (requests_text ++ codes "admit e s1 s5 lowest 3000005 12005 75 1105 500005\n") ≡ Err (request.UnknownNode 7)

abbrev pub shape_text : List ℕ
shape_text =
    codes "residence 21000\n"
    ++ codes "stream a 50000001 8001 64 901\n"
    ++ codes "stream b 60000002 9002 65 902\n"
    ++ codes "stream c 70000003 10003 66 903\n"
    ++ codes "stream d 80000004 11004 67 904\n"
    ++ codes "frame 1001 d 804\n"
    ++ codes "frame 2002 c 703\n"
    ++ codes "frame 3003 b 602\n"
    ++ codes "frame 4004 a 501\n"
    ++ codes "frame 5005 d 900\n"
    ++ codes "frame 6006 c 904\n"

abbrev pub shape : DeclaredShape
shape = record {
  residence_ns = 21000;
  streams =
      stream (codes "a") 50000001 8001 64 901 ∷ stream (codes "b") 60000002 9002 65 902
      ∷ stream (codes "c") 70000003 10003 66 903 ∷ stream (codes "d") 80000004 11004 67 904 ∷ [];
  frames =
      frame 1001 3 804 ∷ frame 2002 2 703 ∷ frame 3003 1 602 ∷ frame 4004 0 501 ∷ frame 5005 3 900
      ∷ frame 6006 2 904 ∷ [];
}

abbrev pub verdicts_text : List ℕ
verdicts_text =
    codes "frame 0 d 804 1001 eligible 1001\n"
    ++ codes "frame 1 c 703 2002 eligible 2002\n"
    ++ codes "frame 2 b 602 3003 eligible 3003\n"
    ++ codes "frame 3 a 501 4004 eligible 4004\n"
    ++ codes "frame 4 d 900 5005 late 36851000\n"
    ++ codes "frame 5 c 904 6006 size\n"
    ++ codes "total frames 6 eligible 4 late 1 size 1\n"

-- it is read so, and what is printed of it; of a line behind the others the number is told
pub record ShapeIsCounted : Type 0 where
  pub read : shape_of shape_text ≡ Ok shape
  pub written : text_of shape ≡ verdicts_text
  pub no_stream : shape_of (shape_text ++ codes "frame 7007 e 64\n") ≡ Err (line.UnknownName 12)
  pub back : shape_of (shape_text ++ codes "frame 6005 a 64\n") ≡ Err (line.TimeBack 12)
