use Rattle.ats_port_capture_law.specs.Laws.{CaptureIsMeant}

-- What the capture of a port is, by the words themselves.

pub capture_is_meant : CaptureIsMeant
capture_is_meant network run port file = (
  λ is. (is.sent, is.ordered.all, is.ordered.in_order, is.ordered.fit, is.written),
  λ h. record {
    sent = h.0;
    ordered = record { all = h.1; in_order = h.2; fit = h.3 };
    written = h.4;
  },
)
